-- Texts as they stand in a page.
use Rattle.std.proofs.Common.{◌≡◌, ℕ, false, List, [], ◌∷◌, refl}
use Rattle.std.specs.Prelude.{All, filter}
use Rattle.std.proofs.lemmas.Bool.{or_parts}
use Rattle.std.proofs.lemmas.List.Elements.{All-append, All-head, All-nil, All-tail}
use Rattle.pb_page.specs.Markup.{is_delimiter, written}
use Rattle.pb_page.specs.Inner.Controls.{is_control}
use Rattle.pb_page.proofs.Characters.{character_plain, is_mark}

pub texts_plain : (text : List ℕ) → All (λ c. is_mark c ≡ false) (written text)
texts_plain [] = All-nil (λ c. is_mark c ≡ false)
texts_plain (c ∷ cs) = All-append (λ x. is_mark x ≡ false) _ (written cs) (character_plain c) (texts_plain cs)

no_delimiter : (xs : List ℕ) → All (λ c. is_mark c ≡ false) xs → filter is_delimiter xs ≡ []
no_delimiter [] plain = refl
no_delimiter (x ∷ xs) plain =
    let first = or_parts (is_delimiter x) (is_control x) (All-head (λ c. is_mark c ≡ false) x xs plain) in
    rw first.0 (no_delimiter xs (All-tail (λ c. is_mark c ≡ false) x xs plain))

pub texts_without_delimiter : (text : List ℕ) → filter is_delimiter (written text) ≡ []
texts_without_delimiter text = no_delimiter (written text) (texts_plain text)
