use Rattle.std.proofs.Common.{◌≡◌, ◌∙◌, ◌++◌, ◌∷◌, ◌<◌, ◌+◌, ◌-◌, ℕ, List, add-one, ap, append_assoc, drop, get_or, length, sym, arith}
use Rattle.std.proofs.Math.Seq.{drop-cons}
use Rattle.std.proofs.lemmas.Grind.{flat_map-append}
use Rattle.std.proofs.lemmas.List.{length-drop}
use Rattle.pb_page.specs.Amount.{grouped}
use Rattle.pb_page.specs.Inner.Digits.{grouped_digit}
use Rattle.pb_page.specs.Markup.{character, written}
use Rattle.pb_page.proofs.markup.amounts.write_grouped.Goals as goal

-- the digits from one on: that one, as it stands with so many behind it, and those behind it
digits_from : (group digits : List ℕ) (at : ℕ) → at < length digits
    → written (grouped group (drop at digits))
    ≡ written (grouped_digit group (get_or digits at 0) (length digits - at - 1)) ++ written (grouped group (drop (at + 1) digits))
digits_from group digits at below =
    let digit = get_or digits at 0 in
    let rest = drop (at + 1) digits in
    let parts : drop at digits ≡ digit ∷ rest = rw add-one (drop-cons digits at 0 below) in
    let many : length rest ≡ length digits - at - 1 = omega (arith, length-drop (at + 1) digits) in
    ap (λ (l : List ℕ). written (grouped group l)) parts
    ∙ flat_map-append character (grouped_digit group digit (length rest)) (grouped group rest)
    ∙ ap (λ (n : ℕ). written (grouped_digit group digit n) ++ written (grouped group rest)) many

pub loop-at-preserved : goal.loop-at-preserved
loop-at-preserved c =
    let digits = c.as_bytes-digits.result.now in
    let group = c.args.group.now in
    let at = c.loop-at.at in
    let page = c.loop-at.page.items in
    let rest = written (grouped group (drop (at + 1) digits)) in
    let wrote : c.write_digit.new.page.items ≡ page ++ written (grouped_digit group (get_or digits at 0) (length digits - at - 1)) = c.in_ok-write_digit.ensures in
    ap (λ (l : List ℕ). l ++ rest) wrote
    ∙ append_assoc page (written (grouped_digit group (get_or digits at 0) (length digits - at - 1))) rest
    ∙ ap (λ (l : List ℕ). page ++ l) (sym (digits_from group digits at c.loop-at-test.true))
    ∙ c.loop-at.invariant
