-- What is cut off behind a text, in the words of its law.
use Rattle.std.proofs.Common.{◌≡◌, ◌≢◌, ℕ, ◌-◌, ◌<◌, ◌==◌, ◌+◌, ◌++◌, Bool, false, List, [], ◌∷◌, cond, get_or, length, length-append, refl, sym, take, take_all, take_at, ◌∙◌, ap, arith}
use Rattle.std.specs.Prelude.{All}
use Rattle.std.specs.List.{suffix_len}
use Rattle.std.proofs.lemmas.Bool.{eq-eqb, ne_eqb}
use Rattle.std.proofs.lemmas.List.{get_or-append_right, get_or_append_left, take_more}
use Rattle.std.proofs.lemmas.List.Elements.{All-head, All-tail}
use Rattle.std.proofs.lemmas.List.Sums.{suffix_len_is}
use Rattle.pb_durable.specs.Opening.{cut_off}

-- bytes without the line ends at their end
abbrev front_of : List ℕ → List ℕ
front_of bytes = take (length bytes - suffix_len (λ c. c == 10) bytes) bytes

module _ (cut : List ℕ) (stops : (front : List ℕ) → cut ≢ front ++ 10 ∷ []) where
  -- the last of what is cut off is no line end
  last_is_none : 0 < length cut → get_or cut (length cut - 1) 0 ≢ 10
  last_is_none some same =
      let n = length cut - 1 in
      let next : length cut ≡ n + 1 = omega (arith, some) in
      let whole : cut ≡ take n cut ++ get_or cut n 0 ∷ [] =
      sym (take_all (n + 1) cut (omega (arith, next))) ∙ take_more cut n 0 (omega (arith, some)) in
      stops (take n cut) (whole ∙ ap (λ (c : ℕ). take n cut ++ c ∷ []) same)

  front_is : (ends : List ℕ) → All (λ c. c ≡ 10) ends → front_of (cut ++ ends) ≡ cut
  front_is ends all =
      let bytes = cut ++ ends in
      let many : length bytes ≡ length cut + length ends = length-append cut ends in
      let behind : suffix_len (λ c. c == 10) bytes ≡ length bytes - length cut =
      suffix_len_is (λ c. c == 10) bytes (length cut) 0 (omega (arith, many))
      (λ k from below. ap (λ (c : ℕ). c == 10) (get_or-append_right cut ends (length cut) k 0 refl from)
      ∙ eq-eqb (get_or ends (k - length cut) 0) 10 (all (k - length cut) 0 (omega (arith, from, below, many))))
      (λ some. ap (λ (c : ℕ). c == 10) (get_or_append_left cut ends 0 (length cut - 1) (omega (arith, some)))
      ∙ ne_eqb (get_or cut (length cut - 1) 0) 10 (last_is_none some)) in
      let left : length bytes - suffix_len (λ c. c == 10) bytes ≡ length cut = omega (arith, behind, many) in
      ap (λ (n : ℕ). take n bytes) left ∙ take_at cut ends (length cut) refl

  -- behind a line end that closes the text
  pub closed_cut : (ends : List ℕ) → All (λ c. c ≡ 10) ends → cut_off (10 ∷ (cut ++ ends)) ≡ cut
  closed_cut ends all = front_is ends all

-- where none closes it
pub unclosed_cut : (cut ends : List ℕ) → All (λ c. c ≡ 10) ends → ((front : List ℕ) → cut ≢ front ++ 10 ∷ []) → ((rest : List ℕ) → cut ≢ 10 ∷ rest)
    → cut_off (cut ++ ends) ≡ cut
unclosed_cut [] [] all stops starts = refl
unclosed_cut [] (c ∷ ends) all stops starts =
    let is : c ≡ 10 = All-head (λ d. d ≡ 10) c ends all in
    ap (λ (d : ℕ). cut_off (d ∷ ends)) is ∙ closed_cut [] stops ends (All-tail (λ d. d ≡ 10) c ends all)
unclosed_cut (c ∷ cut) ends all stops starts =
    let other : (c == 10) ≡ false = ne_eqb c 10 (λ same. starts cut (ap (λ (d : ℕ). d ∷ cut) same)) in
    ap (λ (test : Bool). front_of (cond test (cut ++ ends) (c ∷ (cut ++ ends)))) other ∙ front_is (c ∷ cut) stops ends all
