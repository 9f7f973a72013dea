-- The limit that is read of a value is the whole number that its digits name, and no other value names one.
use Rattle.std.proofs.Common.{◌≡◌, ◌≢◌, ◌⊎◌, ◌↔◌, ℕ, ◌+◌, ◌*◌, ◌<◌, ◌≤◌, ◌==◌, true, false, List, [], ◌∷◌, ◌++◌, take, drop, codes, Some, None, Ok, Err, refl, sym, ◌∙◌, ap, subst, inl, inr, arith}
use Rattle.std.proofs.lemmas.Bool.{cases_Bool}
use Rattle.std.proofs.lemmas.Bool.Decides.{leb_tells, nat_tests}
use Rattle.std.specs.Char.{digit_value}
use Rattle.std.specs.List.{list_all}
use Rattle.std.specs.Str.Parse.{AllDigits, digits_value}
use Rattle.pb_core.proofs.Conditions.{both, left_of, right_of}
use Rattle.pb_core.proofs.MoneyParts.{parts_read, read_parts}
use Rattle.pb_core.proofs.MoneyWorth.{IsWorth-one, fine_worth, in_hundredths, worth_fine}
use Rattle.pb_core.specs.Election.{most_projects}
use Rattle.pb_core.specs.MoneyText.{IsMoneyText, IsWorth, fraction, has_money_form, whole_part}
use Rattle.pb_read.proofs.Limits.{two_zeros, zeros_dropped}
use Rattle.pb_read.specs.Lengths.{has_length_form, max_length_of}
use Rattle.pb_read.specs.Rows.{is_empty}
use Rattle.pb_read.specs.declared.fault.ReadKind.{ReadKind}
use Rattle.pb_read.specs.declared.fault.ReadKind.TheVariants.{BadLength}

-- two decimals are less than a hundred, and where they are nothing, they are zeros
below_hundred : (ds : List ℕ) → AllDigits 10 ds → digits_value 10 (take 2 (ds ++ codes "00")) < 100
below_hundred [] digits = omega arith
below_hundred (a ∷ []) digits = omega (arith, digits.0)
below_hundred (a ∷ b ∷ ds) digits = omega (arith, digits.0, digits.1.0)

zero_digit : (c : ℕ) → digit_value c < 10 → digit_value c ≡ 0 → (c == 48) ≡ true
zero_digit c below none = grind (arith, nat_tests)

all_zeros : (ds : List ℕ) → AllDigits 10 ds → digits_value 10 (take 2 (ds ++ codes "00")) ≡ 0 → list_all (λ c. c == 48) (drop 2 ds) ≡ true → list_all (λ c. c == 48) ds ≡ true
all_zeros [] digits none rest = refl
all_zeros (a ∷ []) digits none rest =
    let first : digit_value a ≡ 0 = omega (arith, none) in
    both (a == 48) true (zero_digit a digits.0 first) refl
all_zeros (a ∷ b ∷ ds) digits none rest =
    let first : digit_value a ≡ 0 = omega (arith, none) in
    let second : digit_value b ≡ 0 = omega (arith, none) in
    both (a == 48) (list_all (λ c. c == 48) (b ∷ ds)) (zero_digit a digits.0 first)
    (both (b == 48) (list_all (λ c. c == 48) ds) (zero_digit b digits.1.0 second) rest)

-- with zeros as decimals the digits are worth the whole number
zeros_worth : (whole decimals : List ℕ) → list_all (λ c. c == 48) decimals ≡ true → IsWorth whole decimals (100 * digits_value 10 whole)
zeros_worth whole decimals zeros =
    let is : in_hundredths whole decimals ≡ 100 * digits_value 10 whole = ap (λ n. 100 * digits_value 10 whole + n) (two_zeros decimals zeros) ∙ omega arith in
    subst (IsWorth whole decimals) is (worth_fine whole decimals (zeros_dropped decimals zeros))

-- and where they are worth a whole number, it is that one, and the decimals are zeros
worth_zeros : (whole decimals : List ℕ) (n : ℕ) → AllDigits 10 decimals → IsWorth whole decimals (100 * n)
    → (list_all (λ c. c == 48) decimals ≡ true) × (n ≡ digits_value 10 whole)
worth_zeros whole decimals n digits is =
    let rest = fine_worth whole decimals (100 * n) digits is in
    let same : in_hundredths whole decimals ≡ 100 * n = IsWorth-one whole decimals (in_hundredths whole decimals) (100 * n) (worth_fine whole decimals rest) is in
    let below = below_hundred decimals digits in
    let none : digits_value 10 (take 2 (decimals ++ codes "00")) ≡ 0 = omega (arith, same, below) in
    (all_zeros decimals digits none rest, omega (arith, same, none))

-- a value's parts, where it has the form
parts_of : (text : List ℕ) → has_length_form text ≡ true → IsMoneyText text (whole_part text) (fraction text)
parts_of text form = parts_read text (left_of (has_money_form text) (list_all (λ c. c == 48) (fraction text)) form)

worth_of : (text : List ℕ) → has_length_form text ≡ true → IsWorth (whole_part text) (fraction text) (100 * digits_value 10 (whole_part text))
worth_of text form = zeros_worth (whole_part text) (fraction text) (right_of (has_money_form text) (list_all (λ c. c == 48) (fraction text)) form)

decimals_are : (text whole decimals : List ℕ) → IsMoneyText text whole decimals → AllDigits 10 decimals
decimals_are text whole decimals (w, inl (same, none)) = rw none tt
decimals_are text whole decimals (w, inr (d, marked)) = d.1

-- a value that names a whole number has the form, and that is the number of its whole part
record Named (text : List ℕ) (n : ℕ) : Type 0 where
  form : has_length_form text ≡ true
  number : n ≡ digits_value 10 (whole_part text)

named : (text whole decimals : List ℕ) (n : ℕ) → IsMoneyText text whole decimals → IsWorth whole decimals (100 * n) → Named text n
named text whole decimals n is is_worth =
    let read = read_parts text whole decimals is in
    let found = worth_zeros whole decimals n (decimals_are text whole decimals is) is_worth in
    record {
      form = both (has_money_form text) (list_all (λ c. c == 48) (fraction text)) read.form (rw read.decimals_is found.0);
      number = rw read.whole_is found.1;
    }

not_empty : (text : List ℕ) → has_length_form text ≡ true → text ≢ []
not_empty text form empty = cc (sym (ap has_length_form empty) ∙ form)

empty_text : (text : List ℕ) → is_empty text ≡ true → text ≡ []
empty_text [] empty = refl
empty_text (b ∷ text) empty = cc empty

some_text : (text : List ℕ) → is_empty text ≡ false → text ≢ []
some_text text some empty = cc (sym (ap is_empty empty) ∙ some)

-- the four answers, each with the tests that lead to it
data Verdict (text : List ℕ) : Type 0 where
  empty : text ≡ [] → max_length_of text ≡ Ok None → Verdict text
  bad : text ≢ [] → has_length_form text ≡ false → max_length_of text ≡ Err BadLength → Verdict text
  above : has_length_form text ≡ true → most_projects < digits_value 10 (whole_part text) → max_length_of text ≡ Ok None → Verdict text
  limit : has_length_form text ≡ true → digits_value 10 (whole_part text) ≤ most_projects → max_length_of text ≡ Ok (Some (digits_value 10 (whole_part text))) → Verdict text

verdict : (text : List ℕ) → Verdict text
verdict text = by_tests (cases_Bool (is_empty text)) (cases_Bool (has_length_form text))
  where
    by_size : is_empty text ≡ false → has_length_form text ≡ true → Verdict text
    by_size some form =
        elim (leb_tells (digits_value 10 (whole_part text)) most_projects) [
          | inl small ↦ limit form small.1 (rw (some, form, small.0) refl)
          | inr over ↦ above form over.1 (rw (some, form, over.0) refl)
        ]

    by_tests : (is_empty text ≡ true) ⊎ (is_empty text ≡ false) → (has_length_form text ≡ true) ⊎ (has_length_form text ≡ false) → Verdict text
    by_tests (inl none) form = empty (empty_text text none) (rw none refl)
    by_tests (inr some) (inr other) = bad (some_text text some) other (rw (some, other) refl)
    by_tests (inr some) (inl form) = by_size some form

-- the limit is the whole number that the digits name
pub limit_named : (text : List ℕ) → (n : ℕ)
    → (max_length_of text ≡ Ok (Some n)) ↔ ((whole : List ℕ) × (decimals : List ℕ) × IsMoneyText text whole decimals × IsWorth whole decimals (100 * n) × (n ≤ most_projects))
limit_named text n = (to (verdict text), from (verdict text))
  where
    to : Verdict text → max_length_of text ≡ Ok (Some n) → (whole : List ℕ) × (decimals : List ℕ) × IsMoneyText text whole decimals × IsWorth whole decimals (100 * n) × (n ≤ most_projects)
    to (empty none is) e = absurd (cc (is, e))
    to (bad some form is) e = absurd (cc (is, e))
    to (above form over is) e = absurd (cc (is, e))
    to (limit form small is) e =
        let same : digits_value 10 (whole_part text) ≡ n = cc (is, e) in
        (whole_part text, fraction text, parts_of text form, subst (λ m. IsWorth (whole_part text) (fraction text) (100 * m)) same (worth_of text form), subst (λ m. m ≤ most_projects) same small)

    from : Verdict text → (whole : List ℕ) × (decimals : List ℕ) × IsMoneyText text whole decimals × IsWorth whole decimals (100 * n) × (n ≤ most_projects) → max_length_of text ≡ Ok (Some n)
    from answer (whole, decimals, parts, is_worth, small) = by answer (named text whole decimals n parts is_worth)
      where
        by : Verdict text → Named text n → max_length_of text ≡ Ok (Some n)
        by (empty none is) found = absurd (not_empty text found.form none)
        by (bad some other is) found = absurd (cc (found.form, other))
        by (above form over is) found = absurd (omega (arith, over, small, found.number))
        by (limit form fits is) found = is ∙ ap (λ m. Ok (Some m)) (sym found.number)

-- there is none where the value is empty, or the number is above the most projects
pub none_named : (text : List ℕ)
    → (max_length_of text ≡ Ok None) ↔ ((text ≡ []) ⊎ ((whole : List ℕ) × (decimals : List ℕ) × (n : ℕ) × IsMoneyText text whole decimals × IsWorth whole decimals (100 * n) × (most_projects < n)))
none_named text = (to (verdict text), from (verdict text))
  where
    to : Verdict text → max_length_of text ≡ Ok None → (text ≡ []) ⊎ ((whole : List ℕ) × (decimals : List ℕ) × (n : ℕ) × IsMoneyText text whole decimals × IsWorth whole decimals (100 * n) × (most_projects < n))
    to (empty none is) e = inl none
    to (bad some form is) e = absurd (cc (is, e))
    to (above form over is) e = inr (whole_part text, fraction text, digits_value 10 (whole_part text), parts_of text form, worth_of text form, over)
    to (limit form small is) e = absurd (cc (is, e))

    from : Verdict text → (text ≡ []) ⊎ ((whole : List ℕ) × (decimals : List ℕ) × (n : ℕ) × IsMoneyText text whole decimals × IsWorth whole decimals (100 * n) × (most_projects < n)) → max_length_of text ≡ Ok None
    from answer (inl none) = ap max_length_of none
    from answer (inr (whole, decimals, n, parts, is_worth, over)) = by answer (named text whole decimals n parts is_worth)
      where
        by : Verdict text → Named text n → max_length_of text ≡ Ok None
        by (empty none is) found = is
        by (bad some other is) found = absurd (cc (found.form, other))
        by (above form large is) found = is
        by (limit form small is) found = absurd (omega (arith, over, small, found.number))

-- and a value that names no whole number is bad
pub bad_named : (text : List ℕ) → (kind : ReadKind)
    → (max_length_of text ≡ Err kind) ↔ ((kind ≡ BadLength) × (text ≢ []) × ((whole : List ℕ) → (decimals : List ℕ) → (n : ℕ) → IsMoneyText text whole decimals → ¬ IsWorth whole decimals (100 * n)))
bad_named text kind = (to (verdict text), from (verdict text))
  where
    to : Verdict text → max_length_of text ≡ Err kind → (kind ≡ BadLength) × (text ≢ []) × ((whole : List ℕ) → (decimals : List ℕ) → (n : ℕ) → IsMoneyText text whole decimals → ¬ IsWorth whole decimals (100 * n))
    to (empty none is) e = absurd (cc (is, e))
    to (bad some other is) e =
        let same : kind ≡ BadLength = cc (is, e) in
        (same, some, λ whole decimals n parts is_worth. let form = (named text whole decimals n parts is_worth).form in cc (form, other))
    to (above form over is) e = absurd (cc (is, e))
    to (limit form small is) e = absurd (cc (is, e))

    from : Verdict text → (kind ≡ BadLength) × (text ≢ []) × ((whole : List ℕ) → (decimals : List ℕ) → (n : ℕ) → IsMoneyText text whole decimals → ¬ IsWorth whole decimals (100 * n)) → max_length_of text ≡ Err kind
    from (empty none is) (same, some, others) = absurd (some none)
    from (bad some other is) (same, none, others) = is ∙ ap Err (sym same)
    from (above form over is) (same, some, others) = absurd (others (whole_part text) (fraction text) (digits_value 10 (whole_part text)) (parts_of text form) (worth_of text form))
    from (limit form small is) (same, some, others) = absurd (others (whole_part text) (fraction text) (digits_value 10 (whole_part text)) (parts_of text form) (worth_of text form))
