use Rattle.std.proofs.Common.{◌≡◌, ◌++◌, option_copied}
use Rattle.pb_commands.proofs.BallotRows.{with_rest}
use Rattle.pb_commands.specs.Ballots.{ballot_columns, ballots_table}
use Rattle.pb_commands.specs.Inner.Ballots.{is_asked}
use Rattle.pb_commands.specs.Inner.Tables.{row_of}
use Rattle.pb_commands.proofs.ballots_table.put_ballots.Given as goal

abbrev pub invariant-loop-id : goal.invariant-loop-id
invariant-loop-id l =
    with_rest (row_of (ballot_columns l.desk)) (is_asked (option_copied l.voter)) l.rows.text l.id-iterator
    ≡ l.fn.rows.text ++ ballots_table (option_copied l.voter) l.desk
