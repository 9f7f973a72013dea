use Rattle.std.proofs.Common.{rules, ◌≡◌, ◌<◌, ◌≤◌, All, List, arith, length, map, subst, sym}
use Rattle.std.specs.Ordering.{nat_cmp}
use Rattle.std.specs.List.Sorted.{IsPermutation, IsStableByKey}
use Rattle.std.proofs.lemmas.Fn.{always_returns_same}
use Rattle.std.proofs.lemmas.List.Sorted.{All-permutation, IsNonDecreasingBy-from_sort_by_key}
use Rattle.pb_core.proofs.Orders.{all_exchanged}
use Rattle.pb_reasons.specs.declared.payment.Payment.{Payment}
use Rattle.pb_commands.proofs.PaymentsInFile.{renamed_known, sorted_in_file}
use Rattle.pb_commands.specs.Inner.Tables.{in_file_place}
use Rattle.pb_commands.proofs.voters_table.put_in_file_order.Goals as goal

pub returns : goal.returns
returns c =
    let order = c.args.count.now.order in
    let old = c.args.payments.now.items in
    let set = c.loop-i.payments.items in
    let new = c.sort_by_key.new.self.items in
    let is = c.election-election.ensures.is_counted in
    let past : length old ≤ c.loop-i.i = omega (arith, c.loop-i-test.false, c.args.payments.now.ok.0) in
    let all = all_exchanged (in_file_place order) old set c.loop-i.i past c.loop-i.invariant in
    let moved = subst (λ (ps : List Payment). IsPermutation ps new) all c.sort_by_key.ensures.permutation in
    let stable = c.sort_by_key.ensures.stable (λ (p : Payment). p.place) (always_returns_same _ _ _ (λ a r q k. search rules)) in
    let known = subst (λ many. All (λ (p : Payment). p.place < many) old) (sym is.one_each) c.requires in
    sorted_in_file order old new (IsNonDecreasingBy-from_sort_by_key (λ (p : Payment). p.place) new c.in_ok-sort_by_key.ensures.sorted (λ a r q k. search rules))
    (subst (λ (ps : List Payment). IsStableByKey (λ (p : Payment). p.place) nat_cmp ps new) all stable)
    (All-permutation (λ (p : Payment). p.place < length order) (map (in_file_place order) old) new moved (renamed_known order is.is_order old known))
