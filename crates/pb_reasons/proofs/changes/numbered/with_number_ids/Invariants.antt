use Rattle.std.proofs.Common.{◌≡◌, ◌++◌, map}
use Rattle.pb_core.specs.Election.{VoterView}
use Rattle.pb_reasons.specs.Inner.Numbered.{AreNumbered}
use Rattle.pb_reasons.proofs.changes.numbered.with_number_ids.Given as goal

abbrev pub invariant-loop-voter : goal.invariant-loop-voter
invariant-loop-voter l = record {
  numbered : AreNumbered l.projects l.own.items;
  ballots : map (λ (v : VoterView). v.ballot) l.own.items ≡ map (λ (v : VoterView). v.ballot) l.yielded;
  whole : l.yielded ++ l.voter-iterator.rest.items ≡ l.initial.voter-iterator.rest.items;
}
