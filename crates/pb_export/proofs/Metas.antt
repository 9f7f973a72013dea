-- META, read back.
use Rattle.std.proofs.Common.{◌≡◌, ◌==◌, ◌<◌, ◌≤◌, ◌^◌, ◌*◌, ◌/◌, ◌%◌, ◌++◌, ℕ, Bool, true, false, cond, drop, List, [], ◌∷◌, append-nil, length, decimal, nat_le, Option, Some, None, Ok, refl, ap, sym, ◌∙◌, inl, arith, rules, subst}
use Rattle.std.specs.List.{AllByRecursion}
use Rattle.std.proofs.lemmas.Bool.{eqb-true}
use Rattle.std.specs.Str.{trim, trim_start, trim_end, chars}
use Rattle.std.proofs.Math.Utf8.{encode}
use Rattle.std.proofs.lemmas.Fmt.{decimal_is_IsNumeral, decimal_nonempty}
use Rattle.pb_core.specs.Election.{ElectionView, most_projects}
use Rattle.pb_core.specs.Money.{largest_money, money_of}
use Rattle.pb_core.specs.MoneyText.{IsWorth, money_text}
use Rattle.std.specs.Str.Parse.{digits_value}
use Rattle.pb_core.proofs.MoneyNamed.{amount_read}
use Rattle.pb_core.proofs.MoneyParts.{read_parts}
use Rattle.pb_read.specs.Inner.Forms.{meta_for}
use Rattle.pb_read.specs.Lengths.{max_length_of}
use Rattle.pb_read.specs.Rows.{head_of, is_empty, rows_of}
use Rattle.pb_read.specs.StandsFor.{IsMeta}
use Rattle.pb_rows.specs.Reading.{Fields}
use Rattle.pb_read.specs.MetaRows.{meta_of}
use Rattle.pb_export.specs.FileRows.{amount_text, meta_rows}
use Rattle.pb_export.specs.Inner.Parts.{KeyView, key_rows, meta_parts}
use Rattle.pb_export.proofs.KeysBehind.{asides, heads_of, meta_behind}
use Rattle.pb_export.proofs.Tidy.{decimal_plain, money_plain, plain_tidy}

-- an amount that was written, read: by the law of money
pub money_back : ((h : ℕ) → h ≤ largest_money → money_of (money_text h) ≡ Ok h) → (h : ℕ) → h ≤ largest_money → money_of (trim (money_text h)) ≡ Ok h
money_back reads_back h small = ap money_of (plain_tidy (money_text h) (money_plain h (omega (arith, small)))) ∙ reads_back h small

-- a whole amount that was written, read
whole_back : (n : ℕ) → 100 * n ≤ largest_money → money_of (trim (decimal n)) ≡ Ok (100 * n)
whole_back n small =
    let fits : n < 2 ^ 64 = omega (arith, small) in
    let numeral = decimal_is_IsNumeral n fits in
    let value : digits_value 10 (decimal n ++ []) ≡ n = ap (digits_value 10) (append-nil (decimal n)) ∙ numeral.1 in
    let worth : IsWorth (decimal n) [] (100 * n) = rw value (omega arith) in
    ap money_of (plain_tidy (decimal n) (decimal_plain n fits))
    ∙ (amount_read (decimal n) (100 * n)).1 (decimal n, [], (numeral.0, inl (refl, refl)), worth, small)

-- an amount as it is exported, read
pub amount_back : ((h : ℕ) → h ≤ largest_money → money_of (money_text h) ≡ Ok h) → (h : ℕ) → h ≤ largest_money → money_of (trim (amount_text h)) ≡ Ok h
amount_back reads_back h small = go (h % 100 == 0) refl
  where
    go : (whole : Bool) → (h % 100 == 0) ≡ whole → money_of (trim (cond whole (decimal (h / 100)) (money_text h))) ≡ Ok h
    go false is = money_back reads_back h small
    go true is =
        let none : h % 100 ≡ 0 = eqb-true (h % 100) 0 is in
        let same : 100 * (h / 100) ≡ h = omega (arith, none) in
        whole_back (h / 100) (omega (arith, none, small)) ∙ ap Ok same

is_some_text : (text : List ℕ) → 0 < length text → is_empty text ≡ false
is_some_text [] some = absurd (omega (arith, some))
is_some_text (c ∷ text) some = refl

pub small_enough : (most : ℕ) → most ≤ most_projects → nat_le most most_projects ≡ true
small_enough most small = search rules

-- a limit that was written, read
pub limit_back : (most : ℕ) → most ≤ most_projects → max_length_of (trim (decimal most)) ≡ Ok (Some most)
limit_back most small =
    let fits : most < 2 ^ 64 = omega (arith, small) in
    let numeral = decimal_is_IsNumeral most fits in
    let parts = read_parts (decimal most) (decimal most) [] (numeral.0, inl (refl, refl)) in
    ap max_length_of (plain_tidy (decimal most) (decimal_plain most fits))
    ∙ rw (is_some_text (decimal most) (decimal_nonempty most fits)) (rw parts.form (rw parts.decimals_is (rw parts.whole_is (rw numeral.1 (rw (small_enough most small) refl)))))

gives_parts : ((h : ℕ) → h ≤ largest_money → money_of (money_text h) ≡ Ok h) → (e : ElectionView) (rule comment : List ℕ) (keys : List KeyView) → e.budget ≤ largest_money → ((most : ℕ) → e.max_length ≡ Some most → most ≤ most_projects)
    → IsMeta (meta_for e) (rows_of (meta_parts e rule comment keys))
unfolding head_of trim_start trim_end chars encode
gives_parts reads_back e rule comment keys small limited = go e.max_length limited
  where
    budget : Ok e.budget ≡ money_of (trim (amount_text e.budget))
    budget = sym (amount_back reads_back e.budget small)

    heads : AllByRecursion (λ row. head_of row ≡ None) (rows_of (key_rows keys))
    heads = heads_of (rows_of (key_rows keys)) (asides keys)

    go : (limit : Option ℕ) → ((most : ℕ) → limit ≡ Some most → most ≤ most_projects) → IsMeta (meta_for (record e { max_length = limit })) (rows_of (meta_parts (record e { max_length = limit }) rule comment keys))
    go None limited =
        let own : List Fields = drop 2 (rows_of (meta_parts (record e { max_length = None }) rule comment [])) in
        let is : meta_for (record e { max_length = None }) ≡ meta_of own = λ i. record { budget = Some (budget i); approval = Some true; max_length = Ok None } in
        (_, own ++ rows_of (key_rows keys), ([], _, refl, refl, refl, (refl, (refl, (refl, (refl, (refl, (refl, (refl, heads)))))))), is ∙ sym (meta_behind own (rows_of (key_rows keys)) (asides keys)))
    go (Some most) limited =
        let back = sym (limit_back most (limited most refl)) in
        let own : List Fields = drop 2 (rows_of (meta_parts (record e { max_length = Some most }) rule comment [])) in
        let is : meta_for (record e { max_length = Some most }) ≡ meta_of own = λ i. record { budget = Some (budget i); approval = Some true; max_length = back i } in
        (_, own ++ rows_of (key_rows keys), ([], _, refl, refl, refl, (refl, (refl, (refl, (refl, (refl, (refl, (refl, (refl, heads))))))))), is ∙ sym (meta_behind own (rows_of (key_rows keys)) (asides keys)))

-- META is its keys and values, row by row
pub meta_is : (e : ElectionView) (rule comment : List ℕ) (keys : List KeyView) → meta_rows e rule comment keys ≡ meta_parts e rule comment keys
meta_is e rule comment keys = go e.max_length
  where
    go : (limit : Option ℕ) → meta_rows (record e { max_length = limit }) rule comment keys ≡ meta_parts (record e { max_length = limit }) rule comment keys
    go None = refl
    go (Some most) = refl

pub gives_terms : ((h : ℕ) → h ≤ largest_money → money_of (money_text h) ≡ Ok h) → (e : ElectionView) (rule comment : List ℕ) (keys : List KeyView) → e.budget ≤ largest_money → ((most : ℕ) → e.max_length ≡ Some most → most ≤ most_projects)
    → IsMeta (meta_for e) (rows_of (meta_rows e rule comment keys))
gives_terms reads_back e rule comment keys small limited =
    subst (λ (rows : List Fields). IsMeta (meta_for e) (rows_of rows)) (sym (meta_is e rule comment keys)) (gives_parts reads_back e rule comment keys small limited)
