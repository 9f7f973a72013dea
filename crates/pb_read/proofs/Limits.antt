-- The limit that an amount names.
use Rattle.std.proofs.Common.{◌≡◌, ◌≢◌, ℕ, ◌+◌, ◌*◌, ◌/◌, ◌==◌, ◌&&◌, Bool, true, false, cond, not, nat_le, List, [], ◌∷◌, ◌++◌, drop, take, Option, Some, None, Result, Ok, Err, refl, sym, ◌∙◌, ap, subst, arith, inl, inr}
use Rattle.std.specs.Prelude.{codes}
use Rattle.std.specs.List.{list_all}
use Rattle.std.specs.Str.Parse.{digits_value}
use Rattle.std.proofs.lemmas.Bool.{eqb-true, false≢true, true≢false}
use Rattle.std.proofs.lemmas.Bool.Decides.{leb_tells}
use Rattle.pb_core.proofs.Conditions.{both, left_of, right_of}
use Rattle.pb_core.specs.Election.{most_projects}
use Rattle.pb_core.specs.Money.{largest_money, money_of}
use Rattle.pb_core.specs.MoneyText.{fraction, has_money_form, hundredths, is_in_hundredths, whole_part}
use Rattle.pb_core.specs.declared.money_fault.MoneyFault.{MoneyFault}
use Rattle.pb_core.specs.declared.money_fault.MoneyFault.TheVariants.{BadMoney, MoneyTooFine, MoneyTooLarge}
use Rattle.pb_read.proofs.ListFacts.{ok≢err, same_Err, same_Ok}
use Rattle.pb_read.specs.Lengths.{has_length_form, max_length_of}
use Rattle.pb_read.specs.Rows.{is_empty}
use Rattle.pb_read.specs.declared.fault.ReadKind.{ReadKind}
use Rattle.pb_read.specs.declared.fault.ReadKind.TheVariants.{BadLength}

-- an amount by its three tests, and a limit by its three
abbrev read_by : Bool → Bool → Bool → ℕ → Result ℕ MoneyFault
read_by form fine fits n = cond (not form) (Err BadMoney) (cond (not fine) (Err MoneyTooFine) (cond fits (Ok n) (Err MoneyTooLarge)))

abbrev limit_by : Bool → Bool → Bool → ℕ → Result (Option ℕ) ReadKind
limit_by empty form small n = cond empty (Ok None) (cond (not form) (Err BadLength) (cond (not small) (Ok None) (Ok (Some n))))

amount_is : (form fine fits : Bool) (n h : ℕ) → read_by form fine fits n ≡ Ok h → (form ≡ true) × (n ≡ h)
amount_is true true true n h e = (refl, same_Ok e)
amount_is true true false n h e = absurd (ok≢err (sym e))
amount_is true false fits n h e = absurd (ok≢err (sym e))
amount_is false fine fits n h e = absurd (ok≢err (sym e))

large_is : (form fine fits : Bool) (n : ℕ) → read_by form fine fits n ≡ Err MoneyTooLarge → (form ≡ true) × (fits ≡ false)
large_is true true true n e = absurd (ok≢err e)
large_is true true false n e = (refl, refl)
large_is true false fits n e = cc e
large_is false fine fits n e = cc e

pub two_zeros : (ds : List ℕ) → list_all (λ c. c == 48) ds ≡ true → digits_value 10 (take 2 (ds ++ codes "00")) ≡ 0
two_zeros [] all = refl
two_zeros (a ∷ []) all =
    let first : a ≡ 48 = eqb-true a 48 (left_of (a == 48) true all) in
    rw first refl
two_zeros (a ∷ b ∷ ds) all =
    let first : a ≡ 48 = eqb-true a 48 (left_of (a == 48) (list_all (λ c. c == 48) (b ∷ ds)) all) in
    let second : b ≡ 48 = eqb-true b 48 (left_of (b == 48) (list_all (λ c. c == 48) ds) (right_of (a == 48) (list_all (λ c. c == 48) (b ∷ ds)) all)) in
    rw (first, second) refl

-- zeros as decimals add nothing
whole_only : (text : List ℕ) → list_all (λ c. c == 48) (fraction text) ≡ true → hundredths text ≡ 100 * digits_value 10 (whole_part text)
whole_only text zeros = ap (λ n. 100 * digits_value 10 (whole_part text) + n) (two_zeros (fraction text) zeros) ∙ omega arith

limit_is : (empty form : Bool) (n w : ℕ) → empty ≡ false → form ≡ true → n ≡ w → Ok (cond (nat_le n most_projects) (Some n) None) ≡ limit_by empty form (nat_le w most_projects) w
limit_is true form n w e f same = absurd (true≢false e)
limit_is false false n w e f same = absurd (false≢true f)
limit_is false true n w e f same =
    subst (λ x. Ok (cond (nat_le n most_projects) (Some n) None) ≡ limit_by false true (nat_le x most_projects) x) same (by (nat_le n most_projects) n)
  where
    by : (small : Bool) (m : ℕ) → ◌≡◌ {A = Result (Option ℕ) ReadKind} (Ok (cond small (Some m) None)) (limit_by false true small m)
    by true m = refl
    by false m = refl

none_is : (empty form small : Bool) (w : ℕ) → empty ≡ false → form ≡ true → small ≡ false → Ok None ≡ limit_by empty form small w
none_is true form small w e f s = absurd (true≢false e)
none_is false false small w e f s = absurd (false≢true f)
none_is false true true w e f s = absurd (true≢false s)
none_is false true false w e f s = refl

-- an amount that was read
pub limit_read : (text : List ℕ) (amount : ℕ) → is_empty text ≡ false → list_all (λ c. c == 48) (fraction text) ≡ true → money_of text ≡ Ok amount →
    Ok (cond (nat_le (amount / 100) most_projects) (Some (amount / 100)) None) ≡ max_length_of text
limit_read text amount some zeros read =
    let is = amount_is (has_money_form text) (is_in_hundredths text) (nat_le (hundredths text) largest_money) (hundredths text) amount read in
    let whole : amount ≡ 100 * digits_value 10 (whole_part text) = sym is.1 ∙ whole_only text zeros in
    let same : amount / 100 ≡ digits_value 10 (whole_part text) = omega (arith, whole) in
    limit_is (is_empty text) (has_length_form text) (amount / 100) (digits_value 10 (whole_part text)) some
    (both (has_money_form text) (list_all (λ c. c == 48) (fraction text)) is.0 zeros) same

far_above : (n w : ℕ) → n ≡ 100 * w → nat_le n largest_money ≡ false → nat_le w most_projects ≡ false
far_above n w is above =
    elim (leb_tells w most_projects) [
      | inl small ↦ elim (leb_tells n largest_money) [
        | inl fits ↦ absurd (true≢false (sym fits.0 ∙ above))
        | inr over ↦ absurd (omega (arith, small.1, over.1, is))
      ]
      | inr over ↦ over.0
    ]

-- an amount that was too large
pub no_limit_read : (text : List ℕ) → is_empty text ≡ false → list_all (λ c. c == 48) (fraction text) ≡ true → money_of text ≡ Err MoneyTooLarge → Ok None ≡ max_length_of text
no_limit_read text some zeros read =
    let is = large_is (has_money_form text) (is_in_hundredths text) (nat_le (hundredths text) largest_money) (hundredths text) read in
    none_is (is_empty text) (has_length_form text) (nat_le (digits_value 10 (whole_part text)) most_projects) (digits_value 10 (whole_part text)) some
    (both (has_money_form text) (list_all (λ c. c == 48) (fraction text)) is.0 zeros) (far_above (hundredths text) (digits_value 10 (whole_part text)) (whole_only text zeros) is.1)

-- no text
pub no_text_read : (text : List ℕ) → is_empty text ≡ true → Ok None ≡ max_length_of text
no_text_read text empty = sym (ap (λ t. limit_by t (has_length_form text) (nat_le (digits_value 10 (whole_part text)) most_projects) (digits_value 10 (whole_part text))) empty)

bad_form : (form zeros small : Bool) (w : ℕ) → zeros ≡ false → limit_by false (form && zeros) small w ≡ Err BadLength
bad_form false zeros small w z = refl
bad_form true zeros small w z = ap (λ t. limit_by false t small w) z

-- decimals that are not zeros
pub bad_decimals_read : (text : List ℕ) → is_empty text ≡ false → list_all (λ c. c == 48) (fraction text) ≡ false → Err BadLength ≡ max_length_of text
bad_decimals_read text some zeros =
    let w = digits_value 10 (whole_part text) in
    sym (ap (λ t. limit_by t (has_length_form text) (nat_le w most_projects) w) some ∙ bad_form (has_money_form text) (list_all (λ c. c == 48) (fraction text)) (nat_le w most_projects) w zeros)

bad_is : (form fine fits : Bool) (n : ℕ) → fine ≡ true → (kind : MoneyFault) → kind ≢ MoneyTooLarge → read_by form fine fits n ≡ Err kind → form ≡ false
bad_is false fine fits n is kind other e = refl
bad_is true true true n is kind other e = absurd (ok≢err e)
bad_is true true false n is kind other e = absurd (other (sym (same_Err e)))
bad_is true false fits n is kind other e = absurd (false≢true is)

pub zeros_dropped : (ds : List ℕ) → list_all (λ c. c == 48) ds ≡ true → list_all (λ c. c == 48) (drop 2 ds) ≡ true
zeros_dropped [] all = refl
zeros_dropped (a ∷ []) all = refl
zeros_dropped (a ∷ b ∷ ds) all = right_of (b == 48) (list_all (λ c. c == 48) ds) (right_of (a == 48) (list_all (λ c. c == 48) (b ∷ ds)) all)

-- a text that is no amount, though its decimals are zeros
pub bad_money_read : (text : List ℕ) → is_empty text ≡ false → list_all (λ c. c == 48) (fraction text) ≡ true → (kind : MoneyFault) → kind ≢ MoneyTooLarge → money_of text ≡ Err kind → Err BadLength ≡ max_length_of text
bad_money_read text some zeros kind other read =
    let w = digits_value 10 (whole_part text) in
    let form = bad_is (has_money_form text) (is_in_hundredths text) (nat_le (hundredths text) largest_money) (hundredths text) (zeros_dropped (fraction text) zeros) kind other read in
    sym (ap (λ t. limit_by t (has_length_form text) (nat_le w most_projects) w) some ∙ ap (λ t. limit_by false (t && list_all (λ c. c == 48) (fraction text)) (nat_le w most_projects) w) form)
