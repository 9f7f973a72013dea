use Rattle.std.proofs.Common.{◌≡◌, ◌∙◌, ◌+◌, ◌<◌, ◌++◌, ◌∷◌, [], ℕ, Bool, List, ap, arith, get_or, map, sym, true, false}
use Rattle.std.specs.Prelude.{filter, not}
use Rattle.std.specs.List.{range_with_len}
use Rattle.std.proofs.lemmas.Bool.{not_from_false, not_from_true}
use Rattle.std.proofs.lemmas.List.{get_or_read}
use Rattle.pb_price.specs.Supporters.{SupportView}
use Rattle.pb_rounds.specs.MostVotes.{is_taken}
use Rattle.pb_rounds.proofs.PassedOver.{kept_one, left_out}
use Rattle.pb_reasons.specs.Inner.Comparing.{AreFlags}
use Rattle.pb_reasons.specs.Inner.Losers.{ranked_of}
use Rattle.pb_reasons.specs.declared.changes.ranked.Ranked.{Ranked}
use Rattle.pb_reasons.proofs.changes.ranked.others.Goals.{then-not-index+in_ok-push, else-not-index}
use Rattle.pb_reasons.proofs.changes.ranked.others.Goals as goal

flag_is : (flags : List Bool) (winners : List ℕ) (n place : ℕ) (b : Bool) → AreFlags n winners flags → place < n → b ≡ get_or flags place b
    → b ≡ is_taken winners place
flag_is flags winners n place b are below read = get_or_read flags place b (omega (arith, below, are.one_each)) read false ∙ are.flagged place below

module _ (s : SupportView) (order winners : List ℕ) (items : List Ranked) (place : ℕ)
    (are : items ≡ map (ranked_of s order) (filter (λ p. not (is_taken winners p)) (range_with_len 0 place))) where
  one_more : is_taken winners place ≡ false
      → items ++ ranked_of s order place ∷ [] ≡ map (ranked_of s order) (filter (λ p. not (is_taken winners p)) (range_with_len 0 (place + 1)))
  one_more free =
      ap (λ (xs : List Ranked). xs ++ ranked_of s order place ∷ []) are
      ∙ sym (kept_one (ranked_of s order) (λ p. not (is_taken winners p)) place (not_from_false _ free))

  none_more : is_taken winners place ≡ true → items ≡ map (ranked_of s order) (filter (λ p. not (is_taken winners p)) (range_with_len 0 (place + 1)))
  none_more gone = are ∙ sym (left_out (ranked_of s order) (λ p. not (is_taken winners p)) place (not_from_true _ gone))

pub loop-place-preserved : goal.loop-place-preserved
loop-place-preserved c =
    let s = c.args.supporters.now in
    let order = c.args.order.now in
    let winners = c.args.winners.now in
    let place = c.loop-place.place in
    let items = c.loop-place.losers.items in
    let is = flag_is c.in_ok-has_won.has_won.items winners c.projects-projects.result place c.index.result.now c.in_ok-has_won.ensures c.loop-place-test.true c.index.ensures in
    elim c.if-not-index.branch [
      | then-not-index+in_ok-push w ↦
          rw (w.losers-is, w.in_ok-push.ensures.items, w.of.ensures.supporters, w.places.ensures.places) (one_more s order winners items place c.loop-place.invariant (sym is ∙ w.if-not-index.true))
      | else-not-index w ↦ rw w.losers-is (none_more s order winners items place c.loop-place.invariant (sym is ∙ w.if-not-index.false))
    ]
