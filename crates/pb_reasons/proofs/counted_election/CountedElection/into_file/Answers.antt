use Rattle.std.proofs.Common.{◌∙◌, ap, length}
use Rattle.std.proofs.lemmas.List.FromFn.{length-map-range_with_len}
use Rattle.pb_core.specs.Order.{position_in}
use Rattle.pb_reasons.proofs.counted_election.CountedElection.into_file.Goals as goal

pub put_in_order-requires : goal.put_in_order-requires
put_in_order-requires c =
    let order = c.self.inside.order in
    ap length c.in_ok-back.ensures ∙ length-map-range_with_len (position_in order) 0 (length order) ∙ c.self.invariant.0.one_each
