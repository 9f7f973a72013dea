-- Whether the elected are over the budget or exhaust it, from the marks of the elected.
use Rattle.std.proofs.Common.{◌≡◌, ℕ, ◌-◌, ◌<◌, ◌≤◌, List, length, get_or, Bool, true, false, not, sym, ◌∙◌, ap, arith, ◌&&◌}
use Rattle.std.specs.Prelude.{nat_lt, nat_le, slice_index_or}
use Rattle.std.specs.List.{list_any, range_with_len}
use Rattle.std.proofs.lemmas.Bool.{true≢false, lt-ltb, le-ltb, and_parts, and_from, false_from_ne_true, not_from_true, not_from_false, and_left, and_right}
use Rattle.std.proofs.lemmas.List.Folds.{list_any_at, list_any_none}
use Rattle.std.proofs.lemmas.List.FromFn.{get_or-range_with_len, length-range_with_len}
use Rattle.pb_price.specs.Supporters.{SupportView, supporters_at, cost_at}
use Rattle.pb_rounds.specs.Count.{spent_on, is_over, is_exhausted, could_be_added}
use Rattle.pb_rounds.specs.Inner.Queue.{AreMarked}
use Rattle.pb_rounds.specs.Run.{ElectedView}

-- the project has a supporter and costs at most this much
abbrev pub is_affordable : SupportView → ℕ → ℕ → Bool
is_affordable s money place = nat_lt 0 (length (supporters_at s place)) && nat_le (cost_at s place) money

module _ (s : SupportView) (budget : ℕ) (elected : List ElectedView) where
  pub over_from_more : budget < spent_on s elected → is_over s budget elected ≡ true
  unfolding is_over
  over_from_more h = lt-ltb budget (spent_on s elected) h

  pub over_from_within : spent_on s elected ≤ budget → is_over s budget elected ≡ false
  unfolding is_over
  over_from_within h = le-ltb budget (spent_on s elected) h

  pub exhausted_from_over : budget < spent_on s elected → is_exhausted s budget elected ≡ false
  unfolding is_exhausted
  exhausted_from_over h = and_left (not (is_over s budget elected)) _ (not_from_true _ (over_from_more h))

  module _ (marks : List Bool) (marked : AreMarked s elected marks) where
    -- what is not elected and affordable could be added
    could_be : (place : ℕ) → place < length s.costs → slice_index_or marks place false ≡ false → is_affordable s (budget - spent_on s elected) place ≡ true
        → could_be_added s budget elected place ≡ true
    could_be place known other h =
        let parts = and_parts _ _ h in
        and_from _ _ (and_from _ _ (not_from_false _ (sym (marked.marked place known) ∙ other)) parts.0) parts.1

    pub exhausted_from_affordable : (place : ℕ) → place < length s.costs → slice_index_or marks place false ≡ false
        → is_affordable s (budget - spent_on s elected) place ≡ true → is_exhausted s budget elected ≡ false
    unfolding is_exhausted
    exhausted_from_affordable place known other h =
        let found : list_any (could_be_added s budget elected) (range_with_len 0 (length s.costs)) ≡ true =
        list_any_at (could_be_added s budget elected) (range_with_len 0 (length s.costs)) place 0 (rw (length-range_with_len 0 (length s.costs)) known)
        (ap (could_be_added s budget elected) (get_or-range_with_len 0 (length s.costs) place 0 known ∙ (omega arith)) ∙ could_be place known other h) in
        and_right (not (is_over s budget elected)) _ (not_from_true _ found)

    -- and where nothing that is not elected is affordable, nothing could be added
    pub exhausted_from_none : spent_on s elected ≤ budget
        → ((place : ℕ) → place < length s.costs → (not (slice_index_or marks place false) && is_affordable s (budget - spent_on s elected) place) ≡ false)
        → is_exhausted s budget elected ≡ true
    unfolding is_exhausted
    exhausted_from_none within none =
        and_from _ _ (not_from_false _ (over_from_within within))
        (not_from_false _ (list_any_none (could_be_added s budget elected) (range_with_len 0 (length s.costs)) (λ k d below.
        let known : k < length s.costs = rw (sym (length-range_with_len 0 (length s.costs))) below in
        let at : get_or (range_with_len 0 (length s.costs)) k d ≡ k = get_or-range_with_len 0 (length s.costs) k d known ∙ omega arith in
        ap (could_be_added s budget elected) at ∙ false_from_ne_true _ (λ could.
        let all = and_parts _ _ could in
        let first = and_parts _ _ all.0 in
        true≢false (sym (and_from _ _ (ap not (marked.marked k known) ∙ first.0) (and_from _ _ first.1 all.1)) ∙ none k known)))))

-- the same, as the code computes it: the rest of the budget is money
module _ (s : SupportView) (budget spent money : ℕ) (marks : List Bool) (one_each : length marks ≡ length s.costs) (within : spent ≤ budget) (money_is : money ≡ budget - spent) where
  pub found_affordable : (place : ℕ) → place < length s.costs → slice_index_or marks place false ≡ false → is_affordable s money place ≡ true
      → (elected : List ElectedView) → AreMarked s elected marks → spent ≡ spent_on s elected → false ≡ is_exhausted s budget elected
  found_affordable place known other h elected marked spent_is =
      sym (exhausted_from_affordable s budget elected marks marked place known other
      (ap (λ n. is_affordable s n place) (ap (λ n. budget - n) (sym spent_is) ∙ sym money_is) ∙ h))

  pub none_affordable : (n : ℕ) → length s.costs ≤ n → ((place : ℕ) → place < n → (not (slice_index_or marks place false) && is_affordable s money place) ≡ false)
      → (elected : List ElectedView) → AreMarked s elected marks → spent ≡ spent_on s elected → true ≡ is_exhausted s budget elected
  none_affordable n all none elected marked spent_is =
      sym (exhausted_from_none s budget elected marks marked (omega arith) (λ place known.
      ap (λ k. not (slice_index_or marks place false) && is_affordable s k place) (ap (λ k. budget - k) (sym spent_is) ∙ sym money_is) ∙ none place (omega arith)))

pub over_budget : (s : SupportView) (budget spent : ℕ) (marks : List Bool) → budget < spent
    → (elected : List ElectedView) → AreMarked s elected marks → spent ≡ spent_on s elected → false ≡ is_exhausted s budget elected
over_budget s budget spent marks more elected marked spent_is =
    sym (exhausted_from_over s budget elected (omega arith))
