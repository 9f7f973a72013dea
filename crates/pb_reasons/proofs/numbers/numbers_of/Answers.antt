use Rattle.std.proofs.Common.{◌≡◌, ℕ, ◌+◌, ◌-◌, ◌<◌, get_or, length, subst, arith}
use Rattle.std.proofs.lemmas.List.{get_or_default}
use Rattle.pb_reasons.proofs.Positions.{AreNumberedFrom, none_numbered, one_numbered}
use Rattle.pb_reasons.proofs.numbers.numbers_of.Goals as goal

pub loop-number-init : goal.loop-number-init
loop-number-init c =
    let numbers = c.in_ok-numbers.numbers in
    none_numbered (λ (p : ℕ). p) c.args.projects c.args.added.now numbers.items
    (c.in_ok-numbers.ensures.items_if_clones_equal (λ y same. same)) (omega (arith, c.in_ok-numbers.ensures.len, numbers.ok.0))

pub loop-number-preserved : goal.loop-number-preserved
loop-number-preserved c =
    let added = c.args.added.now in
    let numbers = c.loop-number.numbers.items in
    let number : ℕ = c.loop-number.number - 1 in
    let before : c.loop-number.number ≡ number + 1 = omega (arith, c.loop-number-test.true) in
    let so_far = subst (λ (n : ℕ). AreNumberedFrom (λ (p : ℕ). p) c.args.projects added numbers n) before c.loop-number.invariant in
    let below : number < length added = omega (arith, c.loop-number-test.true, c.loop-number.invariant.within) in
    let here = get_or_default added number 0 (get_or added number 0) below in
    one_numbered (λ (p : ℕ). p) c.args.projects added numbers number (get_or added number 0) so_far here (c.requires number 0 below)
