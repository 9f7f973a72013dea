use Rattle.std.proofs.Common.{◌≡◌, ◌++◌, ◌∷◌, [], List, map, replicate}
use Rattle.pb_core.specs.Election.{VoterView}
use Rattle.pb_reasons.specs.Inner.Numbered.{AreNumbered}
use Rattle.pb_reasons.proofs.changes.numbered.add_further.Given as goal

abbrev pub invariant-loop-further : goal.invariant-loop-further
invariant-loop-further l = record {
  numbered : AreNumbered l.projects l.voters.items;
  more : List VoterView;
  grown : l.voters.items ≡ l.initial.voters.items ++ more;
  alone : map (λ (v : VoterView). v.ballot) more ≡ replicate l._further (l.place ∷ []);
}
