-- The counts of refused rows, one row after the other.
use denote.Enum.Declared.{tag_of}
use Rattle.std.proofs.Common.{◌≡◌, ◌∙◌, ◌<◌, ◌≤◌, ◌+◌, ◌-◌, ◌^◌, ◌++◌, Bool, true, false, cond, ℕ, List, [], ◌∷◌, length, map, min, Result, Ok, Err, refl, sym, ap, append-nil, arith}
use Rattle.std.specs.Prelude.{◌==◌}
use Rattle.std.specs.List.{count_by, filter_map, range_with_len}
use Rattle.std.specs.Result.{result_err}
use Rattle.std.proofs.lemmas.List.Elements.{filter_map-append}
use Rattle.std.proofs.lemmas.List.Sums.{count_by-le-length, sum_by_push}
use Rattle.std.proofs.Math.Nat.{min-eq_left}
use Rattle.pb_core.specs.Request.{EntryView}
use Rattle.pb_script.specs.contracts.admission.RowRefusal.{the_type}
use Rattle.pb_script.specs.declared.admission.RowRefusal.{RowRefusal}
use Rattle.pb_script.specs.declared.admission.RowRefusal.TheVariants.{Bad, UnknownId, NotOnRoll, TooFew, FromFile, NoShut}
use Rattle.pb_serving.specs.Inner.Refused.{refusals_of, with_refusal}

-- the reasons of these
abbrev pub reasons : List (Result EntryView RowRefusal) → List RowRefusal
reasons became = filter_map result_err became

-- how many of these reasons there are of each
abbrev counts : List RowRefusal → List ℕ
counts whys = map (λ n. count_by (λ why. tag_of the_type why == n) whys) (range_with_len 0 6)

none_refused : (entries : List EntryView) → reasons (map Ok entries) ≡ []
none_refused [] = refl
none_refused (x ∷ entries) = none_refused entries

-- an entry is no refusal
pub refusals-entries : (became : List (Result EntryView RowRefusal)) (entries : List EntryView) → refusals_of (became ++ map Ok entries) ≡ refusals_of became
refusals-entries became entries =
    ap counts (filter_map-append result_err became (map Ok entries) ∙ ap (λ (l : List RowRefusal). reasons became ++ l) (none_refused entries) ∙ append-nil (reasons became))

few_reasons : (became : List (Result EntryView RowRefusal)) → length (reasons became) ≤ length became
few_reasons [] = omega arith
few_reasons (Ok x ∷ became) = let rest = few_reasons became in omega (arith, rest)
few_reasons (Err why ∷ became) = let rest = few_reasons became in omega (arith, rest)

module _ (whys : List RowRefusal) (few : length whys + 1 < 2 ^ 64) where
  abbrev has : ℕ → RowRefusal → Bool
  has n why = tag_of the_type why == n

  -- the count of one reason, which the next row has or not
  each : (why : RowRefusal) (n : ℕ) (b : Bool) → has n why ≡ b → cond b (min (count_by (has n) whys + 1) (2 ^ 64 - 1)) (count_by (has n) whys) ≡ count_by (has n) (whys ++ why ∷ [])
  each why n true is =
      let most = count_by-le-length (has n) whys in
      min-eq_left (omega (arith, most, few)) ∙ sym (sum_by_push (λ (x : RowRefusal). cond (has n x) 1 0) whys why ∙ ap (λ (b : Bool). count_by (has n) whys + cond b 1 0) is)
  each why n false is = sym (sum_by_push (λ (x : RowRefusal). cond (has n x) 1 0) whys why ∙ ap (λ (b : Bool). count_by (has n) whys + cond b 1 0) is ∙ omega arith)

  counted : (why : RowRefusal) → with_refusal (counts whys) why ≡ counts (whys ++ why ∷ [])
  counted Bad = cc (each Bad 0 true refl, each Bad 1 false refl, each Bad 2 false refl, each Bad 3 false refl, each Bad 4 false refl, each Bad 5 false refl)
  counted UnknownId = cc (each UnknownId 0 false refl, each UnknownId 1 true refl, each UnknownId 2 false refl, each UnknownId 3 false refl, each UnknownId 4 false refl, each UnknownId 5 false refl)
  counted NotOnRoll = cc (each NotOnRoll 0 false refl, each NotOnRoll 1 false refl, each NotOnRoll 2 true refl, each NotOnRoll 3 false refl, each NotOnRoll 4 false refl, each NotOnRoll 5 false refl)
  counted TooFew = cc (each TooFew 0 false refl, each TooFew 1 false refl, each TooFew 2 false refl, each TooFew 3 true refl, each TooFew 4 false refl, each TooFew 5 false refl)
  counted FromFile = cc (each FromFile 0 false refl, each FromFile 1 false refl, each FromFile 2 false refl, each FromFile 3 false refl, each FromFile 4 true refl, each FromFile 5 false refl)
  counted NoShut = cc (each NoShut 0 false refl, each NoShut 1 false refl, each NoShut 2 false refl, each NoShut 3 false refl, each NoShut 4 false refl, each NoShut 5 true refl)

-- the counts with a row more that is refused for this
pub refusals-one_more : (became : List (Result EntryView RowRefusal)) (why : RowRefusal) → length became + 1 < 2 ^ 64
    → with_refusal (refusals_of became) why ≡ refusals_of (became ++ Err why ∷ [])
refusals-one_more became why few =
    let most = few_reasons became in
    counted (reasons became) (omega (arith, most, few)) why ∙ ap counts (sym (filter_map-append result_err became (Err why ∷ [])))
