-- Pages that grow.
use Rattle.std.proofs.Common.{◌≡◌, ◌<◌, ◌+◌, ℕ, List, [], ◌∷◌, ◌++◌, append_assoc, append-nil, drop, length, get_or, map, take, refl, sym, ◌∙◌, ap, inl, inr}
use Rattle.std.specs.Prelude.{◌==◌, OnOk, Result, Ok, Err, flat_map, slice_index_or}
use Rattle.std.specs.List.{range_with_len}
use Rattle.std.proofs.lemmas.Bool.{cases_Bool}
use Rattle.std.proofs.lemmas.Grind.{flat_map-append}
use Rattle.std.proofs.lemmas.List.{map-append, take_more}
use Rattle.pb_price.proofs.BuiltLists.{range_with_len_more}
use Rattle.pb_page.specs.Content.{Part}
use Rattle.pb_page.specs.Inner.Filling.{cut, cut_at_places, filled, own}
use Rattle.pb_page.specs.Inner.Grown.{Grows, bytes}
use Rattle.pb_page.specs.Markup.{written}
use Rattle.pb_page.specs.Words.{sentence}
use Rattle.pb_page.specs.declared.language.Language.{Language}

-- the bytes of parts, before what stands behind them
abbrev pub before : List Part → List ℕ → List ℕ
before [] rest = rest
before (part ∷ parts) rest = bytes part ++ before parts rest

pub before_more : (p q : List Part) (rest : List ℕ) → before (p ++ q) rest ≡ before p (before q rest)
before_more [] q rest = refl
before_more (part ∷ parts) q rest = ap (λ (t : List ℕ). bytes part ++ t) (before_more parts q rest)

before_all : (parts : List Part) → before parts [] ≡ flat_map bytes parts
before_all [] = refl
before_all (part ∷ parts) = ap (λ (t : List ℕ). bytes part ++ t) (before_all parts)

-- a piece with what the words of a language say at these keys
abbrev pub heads : Language → (piece keys : List ℕ) → List Part
heads l piece keys = cut piece (map (sentence l.words) keys)

-- other parts with the same bytes
pub alike : (p q : List Part) (old new : List ℕ) → Grows old new p → ((rest : List ℕ) → before p rest ≡ before q rest) → Grows old new q
unfolding Grows
alike p q old new grown same = grown ∙ ap (λ (t : List ℕ). old ++ t) (sym (before_all p) ∙ same [] ∙ before_all q)

pub alike_put : {E : Type 0} (r : Result (Unit {0}) E) (p q : List Part) (old new : List ℕ) → OnOk r (Grows old new p)
    → ((rest : List ℕ) → before p rest ≡ before q rest) → OnOk r (Grows old new q)
alike_put {E} (Ok x) p q old new grown same = alike p q old new grown same
alike_put {E} (Err x) p q old new grown same = tt

-- nothing; a piece; and markup without places
pub none : (page : List ℕ) → Grows page page []
unfolding Grows
none page = sym (append-nil page)

filled_is : (piece : List ℕ) (texts : List (List ℕ)) → filled piece texts ≡ flat_map bytes (cut_at_places piece texts)
filled_is [] texts = refl
filled_is (c ∷ cs) texts =
    let text = written (slice_index_or texts 0 []) in
    elim (cases_Bool (c == 126)) [
      | inl is ↦ rw is (ap (λ (t : List ℕ). text ++ t) (filled_is cs (drop 1 texts)))
      | inr other ↦ rw other (ap (λ (t : List ℕ). c ∷ t) (filled_is cs texts))
    ]

pub piece : (p : List ℕ) (texts : List (List ℕ)) (old new : List ℕ) → new ≡ old ++ filled p texts → Grows old new (cut p texts)
unfolding Grows cut
piece p texts old new put = put ∙ ap (λ (t : List ℕ). old ++ t) (filled_is p texts)

pub markup : (m : List ℕ) (old new : List ℕ) → new ≡ old ++ m → Grows old new (own m)
unfolding Grows
markup m old new put = put ∙ ap (λ (t : List ℕ). old ++ t) (sym (append-nil m))

-- some parts, and then some more
pub then : (first more : List Part) (old middle new : List ℕ) → Grows old middle first → Grows middle new more → Grows old new (first ++ more)
unfolding Grows
then first more old middle new one two =
    two ∙ ap (λ (t : List ℕ). t ++ flat_map bytes more) one ∙ append_assoc old (flat_map bytes first) (flat_map bytes more)
    ∙ ap (λ (t : List ℕ). old ++ t) (sym (flat_map-append bytes first more))

-- some parts, and then some more where memory suffices
pub then_put : {E : Type 0} (r : Result (Unit {0}) E) (first more : List Part) (old middle new : List ℕ)
    → Grows old middle first → OnOk r (Grows middle new more) → OnOk r (Grows old new (first ++ more))
then_put {E} (Ok x) first more old middle new one two = then first more old middle new one two
then_put {E} (Err x) first more old middle new one two = tt

-- what a whole page has grown by
pub whole : (parts : List Part) (start page : List ℕ) → start ≡ [] → Grows start page parts → page ≡ flat_map bytes parts
unfolding Grows
whole parts start page empty grown = grown ∙ ap (λ (t : List ℕ). t ++ flat_map bytes parts) empty

-- the parts of those so far, and those of one more
pub row_more : {X : Type 0} (row : X → List Part) (xs : List X) (i : ℕ) (x : X) (old middle new : List ℕ) → i < length xs → x ≡ get_or xs i x
    → Grows old middle (flat_map row (take i xs)) → Grows middle new (row x) → Grows old new (flat_map row (take (i + 1) xs))
row_more row xs i x old middle new below here one two =
    let all : flat_map row (take (i + 1) xs) ≡ flat_map row (take i xs) ++ row x =
    ap (flat_map row) (take_more xs i x below) ∙ flat_map-append row (take i xs) (get_or xs i x ∷ []) ∙ ap (λ (t : List Part). flat_map row (take i xs) ++ t) (append-nil (row (get_or xs i x)) ∙ ap row (sym here)) in
    rw all (then _ _ _ _ _ one two)

pub place_more : (row : ℕ → List Part) (n : ℕ) (old middle new : List ℕ)
    → Grows old middle (flat_map row (range_with_len 0 n)) → Grows middle new (row n) → Grows old new (flat_map row (range_with_len 0 (n + 1)))
place_more row n old middle new one two =
    let all : flat_map row (range_with_len 0 (n + 1)) ≡ flat_map row (range_with_len 0 n) ++ row n =
    ap (flat_map row) (range_with_len_more n) ∙ flat_map-append row (range_with_len 0 n) (n ∷ []) ∙ ap (λ (t : List Part). flat_map row (range_with_len 0 n) ++ t) (append-nil (row n)) in
    rw all (then _ _ _ _ _ one two)

-- the same, of the places that stand at these positions
pub placed_more : (row : ℕ → List Part) (f : ℕ → ℕ) (n : ℕ) (old middle new : List ℕ)
    → Grows old middle (flat_map row (map f (range_with_len 0 n))) → Grows middle new (row (f n)) → Grows old new (flat_map row (map f (range_with_len 0 (n + 1))))
placed_more row f n old middle new one two =
    let before_it = map f (range_with_len 0 n) in
    let all : flat_map row (map f (range_with_len 0 (n + 1))) ≡ flat_map row before_it ++ row (f n) =
    ap (λ (places : List ℕ). flat_map row (map f places)) (range_with_len_more n) ∙ ap (flat_map row) (map-append f (range_with_len 0 n) (n ∷ []))
    ∙ flat_map-append row before_it (f n ∷ []) ∙ ap (λ (t : List Part). flat_map row before_it ++ t) (append-nil (row (f n))) in
    rw all (then _ _ _ _ _ one two)
