use Rattle.std.proofs.Common.{◌≡◌, ◌∙◌, ℕ, List, Ok, Err, Result, ap, map, subst, take}
use Rattle.std.specs.Prelude.{IfOk}
use Rattle.std.specs.List.Sorted.{IsPermutation, IsSortedBy}
use Rattle.pb_core.specs.Election.{ElectionView}
use Rattle.pb_price.specs.Supporters.{SupportView, support_of}
use Rattle.pb_reasons.specs.Counted.{CountedView, winners_of}
use Rattle.pb_reasons.specs.Inner.Losers.{AreFirst, AreLosers, others_of, ranked_of}
use Rattle.pb_reasons.specs.declared.changes.ranked.Ranked.{Ranked}
use Rattle.pb_reasons.proofs.LoserOrder.{are_losers, comes_before}
use Rattle.pb_reasons.proofs.changes.ranked.first_losers.Goals as goal

ok_first : (e : ElectionView) (c : CountedView) (order : List ℕ) (first : ℕ) {A : Type 0} {E : Type 0} (items : A → List ℕ) (all : List ℕ) (r : Result A E) → AreLosers e c order all
    → IfOk r (λ x. items x ≡ take first all) → IfOk r (λ x. AreFirst e c order first (items x))
ok_first e c order first items all (Ok x) are same = (all, are, same)
ok_first e c order first items all (Err fault) are same = tt

pub returns : goal.returns
returns c =
    let e = c.args.election.now in
    let k = c.args.counted.now in
    let order = c.args.order.now in
    let sorted = c.as_slice-2.result.now in
    let winners : c.as_slice.result.now ≡ winners_of k = c.as_slice.ensures.value ∙ c.in_ok-winners.ensures in
    let others : c.in_ok-losers.losers.items ≡ map (ranked_of (support_of e) order) (others_of (support_of e) (winners_of k)) =
    c.in_ok-losers.ensures ∙ ap (λ (s : SupportView). map (ranked_of s order) (others_of s c.as_slice.result.now)) c.in_ok-supporters.ensures
    ∙ ap (λ (places : List ℕ). map (ranked_of (support_of e) order) (others_of (support_of e) places)) winners in
    let moved : IsPermutation (map (ranked_of (support_of e) order) (others_of (support_of e) (winners_of k))) sorted =
    rw c.as_slice-2.ensures.value (subst (λ (xs : List Ranked). IsPermutation xs c.sort_unstable.new.self.items) others c.sort_unstable.ensures.permutation) in
    let up : IsSortedBy comes_before sorted = rw c.as_slice-2.ensures.value c.sort_unstable.ensures.sorted in
    ok_first e k order c.args.first (λ places. places.items) (map (λ (r : Ranked). r.place) sorted) c.first_places.result (are_losers e k order c.places-places.ensures.each_once c.requires sorted moved up) c.first_places.ensures
