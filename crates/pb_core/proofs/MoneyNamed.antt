-- The amount that is read of a text is the number that its digits name, and each refusal has its reason.
use Rattle.std.proofs.Common.{◌≡◌, ◌⊎◌, ◌↔◌, ℕ, ◌<◌, ◌≤◌, true, false, nat_le, Ok, Err, List, refl, sym, inl, inr, arith}
use Rattle.std.proofs.lemmas.Bool.{cases_Bool}
use Rattle.std.proofs.lemmas.Bool.Decides.{nat_tests}
use Rattle.std.specs.Str.Parse.{AllDigits}
use Rattle.pb_core.proofs.MoneyBack.{money_of-ok}
use Rattle.pb_core.proofs.MoneyParts.{parts_read, read_parts}
use Rattle.pb_core.proofs.MoneyWorth.{IsWorth-one, fine_worth, worth_fine}
use Rattle.pb_core.specs.Money.{largest_money, money_of}
use Rattle.pb_core.specs.MoneyText.{IsMoneyText, IsWorth, fraction, has_money_form, hundredths, is_in_hundredths, whole_part}
use Rattle.pb_core.specs.declared.money_fault.MoneyFault.TheVariants.{BadMoney, MoneyTooFine, MoneyTooLarge}

-- the digits of the decimals
decimals_are : (text whole decimals : List ℕ) → IsMoneyText text whole decimals → AllDigits 10 decimals
decimals_are text whole decimals (w, inl (same, none)) = rw none tt
decimals_are text whole decimals (w, inr (d, marked)) = d.1

-- of a text with these parts: where it is fine, what it is worth, and the other way round
worth : (text whole decimals : List ℕ) → IsMoneyText text whole decimals → is_in_hundredths text ≡ true → IsWorth whole decimals (hundredths text)
worth text whole decimals is fine =
    let read = read_parts text whole decimals is in
    rw (read.whole_is, read.decimals_is) (worth_fine whole decimals (rw read.decimals_is at fine))

fine : (text whole decimals : List ℕ) (h : ℕ) → IsMoneyText text whole decimals → IsWorth whole decimals h → is_in_hundredths text ≡ true
fine text whole decimals h is is_worth =
    let read = read_parts text whole decimals is in
    rw read.decimals_is (fine_worth whole decimals h (decimals_are text whole decimals is) is_worth)

amount : (text whole decimals : List ℕ) (h : ℕ) → IsMoneyText text whole decimals → IsWorth whole decimals h → hundredths text ≡ h
amount text whole decimals h is is_worth =
    IsWorth-one whole decimals (hundredths text) h (worth text whole decimals is (fine text whole decimals h is is_worth)) is_worth

-- the four answers, each with the tests that lead to it
data Verdict (text : List ℕ) : Type 0 where
  bad : has_money_form text ≡ false → Verdict text
  too_fine : has_money_form text ≡ true → is_in_hundredths text ≡ false → Verdict text
  too_large : has_money_form text ≡ true → is_in_hundredths text ≡ true → largest_money < hundredths text → Verdict text
  good : has_money_form text ≡ true → is_in_hundredths text ≡ true → hundredths text ≤ largest_money → Verdict text

le_of_nat_le : (a b : ℕ) → nat_le a b ≡ true → a ≤ b
le_of_nat_le a b is = grind (arith, nat_tests)

lt_of_nat_le : (a b : ℕ) → nat_le a b ≡ false → b < a
lt_of_nat_le a b is = grind (arith, nat_tests)

nat_le-above : (a b : ℕ) → b < a → nat_le a b ≡ false
nat_le-above a b above = grind (arith, nat_tests)

verdict : (text : List ℕ) → Verdict text
verdict text = by_form (cases_Bool (has_money_form text)) (cases_Bool (is_in_hundredths text)) (cases_Bool (nat_le (hundredths text) largest_money))
  where
    by_form : (has_money_form text ≡ true) ⊎ (has_money_form text ≡ false) → (is_in_hundredths text ≡ true) ⊎ (is_in_hundredths text ≡ false)
        → (nat_le (hundredths text) largest_money ≡ true) ⊎ (nat_le (hundredths text) largest_money ≡ false) → Verdict text
    by_form (inr no_form) fineness size = bad no_form
    by_form (inl form) (inr coarse) size = too_fine form coarse
    by_form (inl form) (inl fine) (inl within) = good form fine (le_of_nat_le (hundredths text) largest_money within)
    by_form (inl form) (inl fine) (inr above) = too_large form fine (lt_of_nat_le (hundredths text) largest_money above)

-- what is read where the tests answer so
read_bad : (text : List ℕ) → has_money_form text ≡ false → money_of text ≡ Err BadMoney
read_bad text form = rw form refl

read_too_fine : (text : List ℕ) → has_money_form text ≡ true → is_in_hundredths text ≡ false → money_of text ≡ Err MoneyTooFine
read_too_fine text form coarse = rw (form, coarse) refl

read_too_large : (text : List ℕ) → has_money_form text ≡ true → is_in_hundredths text ≡ true → largest_money < hundredths text → money_of text ≡ Err MoneyTooLarge
read_too_large text form is_fine above = rw (form, is_fine, nat_le-above (hundredths text) largest_money above) refl

-- a text is no amount of money where it has no parts
pub bad_money : (text : List ℕ) → (money_of text ≡ Err BadMoney) ↔ (¬ ((whole : List ℕ) × (decimals : List ℕ) × IsMoneyText text whole decimals))
bad_money text = (to, from)
  where
    to : money_of text ≡ Err BadMoney → ¬ ((whole : List ℕ) × (decimals : List ℕ) × IsMoneyText text whole decimals)
    to is (whole, decimals, parts) = by (verdict text)
      where
        form : has_money_form text ≡ true
        form = (read_parts text whole decimals parts).form

        by : Verdict text → ⊥
        by (bad no_form) = cc (form, no_form)
        by (too_fine yes_form coarse) = cc (is, read_too_fine text yes_form coarse)
        by (too_large yes_form is_fine above) = cc (is, read_too_large text yes_form is_fine above)
        by (good yes_form is_fine within) = cc (is, money_of-ok text (hundredths text) yes_form is_fine refl within)

    from : ¬ ((whole : List ℕ) × (decimals : List ℕ) × IsMoneyText text whole decimals) → money_of text ≡ Err BadMoney
    from none = by (cases_Bool (has_money_form text))
      where
        by : (has_money_form text ≡ true) ⊎ (has_money_form text ≡ false) → money_of text ≡ Err BadMoney
        by (inl form) = absurd (none (whole_part text, fraction text, parts_read text form))
        by (inr no_form) = read_bad text no_form

-- it is read as the amount that its digits are worth, within the limit
pub amount_read : (text : List ℕ) (h : ℕ)
    → (money_of text ≡ Ok h) ↔ ((whole : List ℕ) × (decimals : List ℕ) × IsMoneyText text whole decimals × IsWorth whole decimals h × (h ≤ largest_money))
amount_read text h = (to (verdict text), from)
  where
    to : Verdict text → money_of text ≡ Ok h → (whole : List ℕ) × (decimals : List ℕ) × IsMoneyText text whole decimals × IsWorth whole decimals h × (h ≤ largest_money)
    to (bad no_form) is = absurd (cc (is, read_bad text no_form))
    to (too_fine form coarse) is = absurd (cc (is, read_too_fine text form coarse))
    to (too_large form is_fine above) is = absurd (cc (is, read_too_large text form is_fine above))
    to (good form is_fine within) is =
        let parts = parts_read text form in
        let same : hundredths text ≡ h = cc (is, money_of-ok text (hundredths text) form is_fine refl within) in
        (whole_part text, fraction text, parts, rw (← same) (worth text (whole_part text) (fraction text) parts is_fine), rw (← same) within)

    from : (whole : List ℕ) × (decimals : List ℕ) × IsMoneyText text whole decimals × IsWorth whole decimals h × (h ≤ largest_money) → money_of text ≡ Ok h
    from (whole, decimals, parts, is_worth, within) =
        money_of-ok text h (read_parts text whole decimals parts).form (fine text whole decimals h parts is_worth) (sym (amount text whole decimals h parts is_worth)) within

-- it is too fine where its digits are worth no whole number of hundredths
pub too_fine_read : (text : List ℕ)
    → (money_of text ≡ Err MoneyTooFine) ↔ ((whole : List ℕ) × (decimals : List ℕ) × IsMoneyText text whole decimals × ((h : ℕ) → ¬ IsWorth whole decimals h))
too_fine_read text = (to (verdict text), from)
  where
    to : Verdict text → money_of text ≡ Err MoneyTooFine → (whole : List ℕ) × (decimals : List ℕ) × IsMoneyText text whole decimals × ((h : ℕ) → ¬ IsWorth whole decimals h)
    to (bad no_form) is = absurd (cc (is, read_bad text no_form))
    to (too_fine form coarse) is =
        let parts = parts_read text form in
        (whole_part text, fraction text, parts, λ h is_worth. let is_fine = fine text (whole_part text) (fraction text) h parts is_worth in cc (is_fine, coarse))
    to (too_large form is_fine above) is = absurd (cc (is, read_too_large text form is_fine above))
    to (good form is_fine within) is = absurd (cc (is, money_of-ok text (hundredths text) form is_fine refl within))

    from : (whole : List ℕ) × (decimals : List ℕ) × IsMoneyText text whole decimals × ((h : ℕ) → ¬ IsWorth whole decimals h) → money_of text ≡ Err MoneyTooFine
    from (whole, decimals, parts, none) = by (cases_Bool (is_in_hundredths text))
      where
        by : (is_in_hundredths text ≡ true) ⊎ (is_in_hundredths text ≡ false) → money_of text ≡ Err MoneyTooFine
        by (inl is_fine) = absurd (none (hundredths text) (worth text whole decimals parts is_fine))
        by (inr coarse) = read_too_fine text (read_parts text whole decimals parts).form coarse

-- and too large where they are worth more than the limit
pub too_large_read : (text : List ℕ)
    → (money_of text ≡ Err MoneyTooLarge) ↔ ((whole : List ℕ) × (decimals : List ℕ) × (h : ℕ) × IsMoneyText text whole decimals × IsWorth whole decimals h × (largest_money < h))
too_large_read text = (to (verdict text), from)
  where
    to : Verdict text → money_of text ≡ Err MoneyTooLarge
        → (whole : List ℕ) × (decimals : List ℕ) × (h : ℕ) × IsMoneyText text whole decimals × IsWorth whole decimals h × (largest_money < h)
    to (bad no_form) is = absurd (cc (is, read_bad text no_form))
    to (too_fine form coarse) is = absurd (cc (is, read_too_fine text form coarse))
    to (too_large form is_fine above) is =
        let parts = parts_read text form in
        (whole_part text, fraction text, hundredths text, parts, worth text (whole_part text) (fraction text) parts is_fine, above)
    to (good form is_fine within) is = absurd (cc (is, money_of-ok text (hundredths text) form is_fine refl within))

    from : (whole : List ℕ) × (decimals : List ℕ) × (h : ℕ) × IsMoneyText text whole decimals × IsWorth whole decimals h × (largest_money < h) → money_of text ≡ Err MoneyTooLarge
    from (whole, decimals, h, parts, is_worth, above) =
        let same = amount text whole decimals h parts is_worth in
        read_too_large text (read_parts text whole decimals parts).form (fine text whole decimals h parts is_worth) (rw same above)
