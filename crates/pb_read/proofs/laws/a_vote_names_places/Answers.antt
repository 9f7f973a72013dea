use Rattle.pb_read.proofs.InWords.{it_is_voted, it_names_only, names_are, voted}
use Rattle.pb_read.proofs.Keeps.{ballot_of-rises}
use Rattle.pb_read.proofs.ListFacts.{Contains-is_among, is_among-Contains}
use Rattle.pb_read.proofs.laws.a_vote_names_places.Goals as goal

pub returns : goal.returns
returns c = record {
  among = λ ids id. (Contains-is_among ids id, is_among-Contains ids id);
  names = λ ids vote. (names_are ids vote, it_names_only ids vote);
  rising = ballot_of-rises;
  voted = λ ids vote place. (voted ids vote place, it_is_voted ids vote place);
}
