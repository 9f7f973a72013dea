use Rattle.std.proofs.Common.{◌≡◌, List, ℕ, map, subst, arith}
use Rattle.std.specs.Prelude.{filter, nat_lt, slice_index}
use Rattle.std.proofs.lemmas.Grind.{common_steps}
use Rattle.std.proofs.lemmas.List.{take_all}
use Rattle.std.proofs.lemmas.List.Filters.{dedup_is}
use Rattle.std.proofs.lemmas.Map.Keys.{IsStrictlyIncreasing-dedup}
use lib.Dec.{eqb}
use Rattle.pb_core.specs.Ballot.{HasSameMembers}
use Rattle.pb_core.proofs.Rising.{HasSameMembers-sorted}
use Rattle.pb_reasons.proofs.purse.gather.Goals as goal

pub returns-clause-rise : goal.returns-clause-rise
returns-clause-rise c = rw (dedup_is eqb _ _ c.dedup.ensures.filtered) (IsStrictlyIncreasing-dedup _ c.sort_unstable.ensures.sorted)

pub returns-clause-members : goal.returns-clause-members
returns-clause-members c =
    let all : c.loop-place.due.items ≡ filter (λ round. nat_lt round c.args.elected) (map (λ place. slice_index c.args.rounds.now place) c.args.ballot.now) =
    rw (take_all c.loop-place.place-index c.args.ballot.now c.loop-place-test.false) at c.loop-place.invariant in
    let sorted : HasSameMembers c.loop-place.due.items c.dedup.new.self.items = rw (dedup_is eqb _ _ c.dedup.ensures.filtered) (HasSameMembers-sorted _ _ c.sort_unstable.ensures.permutation) in
    subst (λ (xs : List ℕ). HasSameMembers xs c.dedup.new.self.items) all sorted

pub loop-place-preserved : goal.loop-place-preserved
loop-place-preserved c = grind (arith, common_steps)
