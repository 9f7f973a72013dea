-- Digits in groups of three, from the last on.
use Rattle.std.proofs.Common.{◌≡◌, ◌<◌, ◌≤◌, ℕ, ◌%◌, List, [], ◌∷◌, ◌++◌, ◌+◌, append_assoc, length, length-append, refl, sym, ◌∙◌, ap, arith}
use Rattle.std.specs.Prelude.{◌&&◌, ◌==◌, if◌then◌else◌, nat_lt}
use Rattle.std.proofs.lemmas.Bool.{lt-ltb}
use Rattle.pb_page.specs.Amount.{grouped}

pub few_stand : (group digits : List ℕ) → length digits ≤ 3 → grouped group digits ≡ digits
few_stand group [] few = refl
few_stand group (a ∷ []) few = refl
few_stand group (a ∷ b ∷ []) few = refl
few_stand group (a ∷ b ∷ c ∷ []) few = refl
few_stand group (a ∷ b ∷ c ∷ d ∷ more) few = absurd (omega arith)

-- the sign behind a digit, by how many digits stand behind it
abbrev sign : (group : List ℕ) → (behind : ℕ) → List ℕ
sign group behind = if nat_lt 0 behind && (behind % 3 == 0) then group else []

same_sign : (group : List ℕ) (m n : ℕ) → 0 < m → 0 < n → m % 3 ≡ n % 3 → sign group m ≡ sign group n
same_sign group m n some_m some_n same = rw (lt-ltb 0 m some_m, lt-ltb 0 n some_n, same) refl

three_step : (group : List ℕ) (d : ℕ) (digits three : List ℕ) → length three ≡ 3
    → (0 < length digits → grouped group (digits ++ three) ≡ grouped group digits ++ (group ++ three))
    → grouped group (d ∷ (digits ++ three)) ≡ grouped group (d ∷ digits) ++ (group ++ three)
three_step group d [] three is before =
    let few : length three ≤ 3 = omega (arith, is) in
    rw is (ap (λ (t : List ℕ). d ∷ (group ++ t)) (few_stand group three few))
three_step group d (e ∷ digits) three is before =
    let more = e ∷ digits in
    let many : length (more ++ three) ≡ length more + 3 = length-append more three ∙ ap (λ (n : ℕ). length more + n) is in
    let same : length (more ++ three) % 3 ≡ length more % 3 = omega (arith, many) in
    let some : 0 < length more = omega arith in
    let some_more : 0 < length (more ++ three) = omega (arith, many) in
    let signs = same_sign group (length (more ++ three)) (length more) some_more some same in
    ap (λ (s : List ℕ). (d ∷ s) ++ grouped group (more ++ three)) signs
    ∙ ap (λ (t : List ℕ). (d ∷ sign group (length more)) ++ t) (before some)
    ∙ sym (append_assoc (d ∷ sign group (length more)) (grouped group more) (group ++ three))

pub three_more : (group digits three : List ℕ) → 0 < length digits → length three ≡ 3
    → grouped group (digits ++ three) ≡ grouped group digits ++ (group ++ three)
three_more group [] three some is = absurd (omega (arith, some))
three_more group (d ∷ digits) three some is = three_step group d digits three is (λ some_left. three_more group digits three some_left is)
