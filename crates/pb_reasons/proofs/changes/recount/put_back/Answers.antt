use Rattle.std.proofs.Common.{◌≡◌, ◌∙◌, ℕ, List, ap, length, subst, sym}
use Rattle.std.proofs.lemmas.List.FromFn.{length-map-range_with_len}
use Rattle.pb_core.specs.Order.{in_order, position_in}
use Rattle.pb_rounds.specs.TieOrder.{IsTieOrder, by_file}
use Rattle.pb_rounds.specs.declared.tie_rule.TieRule.{TieRule}
use Rattle.pb_rounds.proofs.OneOrder.{file_alone}
use Rattle.pb_reasons.proofs.Sorted.{as_many_sorted, led_back, one_each}
use Rattle.pb_reasons.proofs.changes.recount.put_back.Goals as goal

pub put_in_order-requires : goal.put_in_order-requires
put_in_order-requires c =
    let ties = c.args.ties.now in
    let order = c.args.order.now in
    let old = c.args.election.now in
    let (e, election, is_put) = c.requires.sorted in
    ap length c.in_ok-back.ensures ∙ length-map-range_with_len (position_in order) 0 (length order) ∙ one_each ties e order is_put.0
    ∙ sym (as_many_sorted ties e old order election is_put)

-- by the file alone it stands as it did
pub returns-then-is_file : goal.returns-then-is_file
returns-then-is_file c e election is_put =
    let order = c.args.order.now in
    let file : c.args.ties.now ≡ by_file = λ i. record { keys = c.is_file.ensures.keys c.if-is_file.true i; lot = c.is_file.ensures.lot c.if-is_file.true i } in
    is_put.1 ∙ (file_alone e order election (subst (λ (t : TieRule). IsTieOrder t e order) file is_put.0)).1

pub returns : goal.returns
returns c e election is_put =
    c.in_ok-put_in_order.ensures.ok ∙ ap (λ (back : List ℕ). in_order back c.args.election.now) c.in_ok-back.ensures
    ∙ led_back c.args.ties.now e c.args.election.now c.args.order.now election is_put
