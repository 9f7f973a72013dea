-- What a text, as it stands in a page, does not end.
use Rattle.std.proofs.Common.{◌≡◌, ◌≢◌, ◌⊎◌, ℕ, suc, ◌+◌, ◌≤◌, not, take, false, true, List, [], ◌∷◌, ◌++◌, refl, sym, ◌∙◌, ap, inl, inr, arith}
use Rattle.std.specs.Prelude.{◌==◌, All}
use Rattle.std.specs.List.{before_first, prefix_len}
use Rattle.std.proofs.lemmas.Bool.{cases_lt, eq-eqb, lt-ltb, ne_eqb, or_parts, true≢false}
use Rattle.std.proofs.lemmas.List.Elements.{All-cons, All-head, All-nil, All-tail}
use Rattle.pb_page.specs.Markup.{is_delimiter, written}
use Rattle.pb_page.specs.Inner.Controls.{is_control}
use Rattle.pb_page.proofs.Characters.{is_mark}
use Rattle.pb_page.proofs.Texts.{texts_plain}

all_so : (P : ℕ → Type 0) → ((c : ℕ) → is_mark c ≡ false → P c) → (xs : List ℕ) → All (λ c. is_mark c ≡ false) xs → All P xs
all_so P so [] plain = All-nil P
all_so P so (x ∷ xs) plain =
    All-cons P x xs (so x (All-head (λ c. is_mark c ≡ false) x xs plain)) (all_so P so xs (All-tail (λ c. is_mark c ≡ false) x xs plain))

-- what is no mark is none of them
unlike : (c code : ℕ) → is_mark code ≡ true → is_mark c ≡ false → c ≢ code
unlike c code marks plain same = true≢false (sym marks ∙ ap is_mark (sym same) ∙ plain)

above : (c : ℕ) → is_mark c ≡ false → 32 ≤ c
above c plain = elim (cases_lt c 32) [
  | inl less ↦ absurd (true≢false (sym (lt-ltb c 32 less) ∙ (or_parts _ _ (or_parts (is_delimiter c) (is_control c) plain).1).0))
  | inr more ↦ more
]

take_one_more : (n x : ℕ) (xs : List ℕ) → take (1 + n) (x ∷ xs) ≡ x ∷ take n xs
take_one_more n x xs =
    let more : 1 + n ≡ suc n = omega arith in ap (λ m. take m (x ∷ xs)) more

ends_there : (quote : ℕ) (xs after : List ℕ) → All (λ c. c == quote ≡ false) xs → before_first (λ c. c == quote) (xs ++ quote ∷ after) ≡ xs
ends_there quote [] after all = rw (eq-eqb quote quote refl) refl
ends_there quote (x ∷ xs) after all =
    rw (All-head (λ c. c == quote ≡ false) x xs all)
    (take_one_more (prefix_len (λ c. not (c == quote)) (xs ++ quote ∷ after)) x (xs ++ quote ∷ after)
    ∙ ap (λ (t : List ℕ). x ∷ t) (ends_there quote xs after (All-tail (λ c. c == quote ≡ false) x xs all)))

other_quote : (quote c : ℕ) → (quote ≡ 34) ⊎ (quote ≡ 39) → is_mark c ≡ false → c == quote ≡ false
other_quote quote c (inl is) plain = ne_eqb c quote (λ e. unlike c 34 refl plain (e ∙ is))
other_quote quote c (inr is) plain = ne_eqb c quote (λ e. unlike c 39 refl plain (e ∙ is))

pub attributes_hold : (quote : ℕ) (text after : List ℕ) → (quote ≡ 34) ⊎ (quote ≡ 39) → before_first (λ c. c == quote) (written text ++ quote ∷ after) ≡ written text
attributes_hold quote text after one =
    ends_there quote (written text) after (all_so (λ c. c == quote ≡ false) (λ c. other_quote quote c one) (written text) (texts_plain text))

pub no_tags : (text : List ℕ) → All (λ c. (c ≢ 60) × (c ≢ 62)) (written text)
no_tags text = all_so (λ c. (c ≢ 60) × (c ≢ 62)) (λ c plain. (unlike c 60 refl plain, unlike c 62 refl plain)) (written text) (texts_plain text)

pub no_control : (text : List ℕ) → All (λ c. (32 ≤ c) × (c ≢ 127)) (written text)
no_control text = all_so (λ c. (32 ≤ c) × (c ≢ 127)) (λ c plain. (above c plain, unlike c 127 refl plain)) (written text) (texts_plain text)
