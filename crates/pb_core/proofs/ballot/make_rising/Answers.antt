use Rattle.std.proofs.lemmas.List.Filters.{dedup_is}
use Rattle.std.proofs.lemmas.Map.Keys.{IsStrictlyIncreasing-dedup}
use lib.Dec.{eqb}
use Rattle.pb_core.proofs.Rising.{HasSameMembers-sorted}
use Rattle.pb_core.proofs.ballot.make_rising.Goals as goal

pub returns : goal.returns
returns g c =
    let is = dedup_is eqb _ _ c.dedup.ensures.filtered in
    record {
      rising = rw is (IsStrictlyIncreasing-dedup _ c.sort_unstable.ensures.sorted);
      members = rw is (HasSameMembers-sorted _ _ c.sort_unstable.ensures.permutation);
    }
