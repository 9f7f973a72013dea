use Rattle.pb_commands.proofs.GivenBallots.{given_by, the_files}
use Rattle.pb_commands.proofs.laws.ballots_name_their_entries.Goals as goal

pub returns : goal.returns
returns c = record {
  given = λ o journal voter ballot number is legal stands names. given_by voter o journal ballot is legal stands number names;
  own = λ o journal voter ballot is legal stands names. the_files voter o journal ballot is legal stands names;
}
