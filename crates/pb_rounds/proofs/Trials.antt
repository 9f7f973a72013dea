-- Raises that are tried: what their ends say of the completion.
use Rattle.std.proofs.Common.{◌≡◌, ℕ, ◌+◌, ◌-◌, ◌*◌, ◌<◌, ◌≤◌, List, ◌++◌, length, replicate, take, Option, None, Some, false, subst, sym, ◌∙◌, ap, inl, inr, arith}
use Rattle.std.specs.Prelude.{IfOk, MatchOption, Ok, Result}
use Rattle.std.specs.List.{range_with_len}
use Rattle.std.proofs.Math.Nat.{mul-le-mul_right}
use Rattle.std.proofs.Math.Seq.{take-append_seam}
use Rattle.std.proofs.lemmas.Bool.{cases_eq, cases_lt, or_from, or_parts, true≢false}
use Rattle.pb_core.specs.Election.{ElectionView}
use Rattle.pb_price.specs.Supporters.{SupportView, support_in}
use Rattle.pb_price.specs.declared.grain.Grain.{Grain}
use Rattle.pb_rounds.specs.declared.measure.Measure.{Measure}
use Rattle.pb_rounds.specs.declared.raise_end.RaiseEnd.{RaiseEnd}
use Rattle.pb_rounds.specs.declared.raise_end.RaiseEnd.TheVariants.{GoesOn, Exhausted, Over}
use Rattle.pb_rounds.specs.Inner.Between.{KeepsElecting, KeepsUpTo}
use Rattle.pb_rounds.specs.Count.{add1_of, elected_after, is_decisive, is_over_after, opening_share, share_after}
use Rattle.pb_rounds.specs.Inner.RaiseEnds.{IsRaiseEnd, IsTried}
use Rattle.pb_rounds.specs.Run.{ElectedView, run_of}
use Rattle.pb_rounds.proofs.BetweenShares.{same_between, same_exhausted, same_over}
use Rattle.pb_rounds.proofs.Completing.{decided_before, decided_here, opening_not_over}

-- a slice of a whole list, written back
pub whole_left : {X : Type 0} (xs ys : List X) (n : ℕ) → n ≡ length xs → take n (xs ++ ys) ≡ xs
whole_left xs ys n e = ap (λ k. take k (xs ++ ys)) e ∙ take-append_seam xs ys

-- where nothing was found, all that were looked at are so
pub all_tried : (found : Option ℕ) (P Q : ℕ → Type 0) (bound more : ℕ) → found ≡ None
    → MatchOption found ((raises : ℕ) → raises < bound → P raises) Q → more ≤ bound → (raises : ℕ) → raises < more → P raises
all_tried found P Q bound more none h fits raises below =
    subst (λ (o : Option ℕ). MatchOption o ((raises : ℕ) → raises < bound → P raises) Q) none h raises (omega arith)

-- what the end of a raise says, where no raise before it decides
module _ (m : Measure) (grain : Grain) (e : ElectionView) (step limit raised : ℕ) (tried : (j : ℕ) → j < raised → is_decisive m grain e step j ≡ false)
    (s : SupportView) (same : s ≡ support_in grain e) (opening : ℕ) (opening_is : opening ≡ opening_share grain e) (budget : ℕ) (budget_is : budget ≡ e.budget) where
  after_raises : (end : RaiseEnd) → IsRaiseEnd m s budget (opening + raised * step) end → IsRaiseEnd m (support_in grain e) e.budget (share_after grain e step raised) end
  after_raises end h =
      subst (λ (t : SupportView). IsRaiseEnd m t e.budget (share_after grain e step raised) end) same
      (subst (λ n. IsRaiseEnd m s n (share_after grain e step raised) end) budget_is
      (subst (λ n. IsRaiseEnd m s budget (n + raised * step) end) opening_is h))

  pub end_goes_on : IsRaiseEnd m s budget (opening + raised * step) GoesOn → (j : ℕ) → j < raised + 1 → is_decisive m grain e step j ≡ false
  end_goes_on h j below =
      let here = after_raises GoesOn h in
      elim (cases_eq j raised) [
        | inl now ↦ ap (is_decisive m grain e step) now ∙ or_from _ _ here.0 here.1
        | inr before ↦ tried j (omega arith)
      ]

  pub end_over : raised ≤ limit → IsRaiseEnd m s budget (opening + raised * step) Over → add1_of m grain e step limit ≡ Some (raised - 1)
  end_over within h = decided_before m grain e step limit raised within tried (after_raises Over h)

  pub end_exhausted : raised ≤ limit → IsRaiseEnd m s budget (opening + raised * step) Exhausted → add1_of m grain e step limit ≡ Some raised
  end_exhausted within h = let here = after_raises Exhausted h in decided_here m grain e step limit raised within tried here.0 here.1

-- a raise that was tried, at its share, where no raise before it decides
module _ (m : Measure) (grain : Grain) (e : ElectionView) (step raised : ℕ) (tried : (j : ℕ) → j < raised → is_decisive m grain e step j ≡ false)
    (s : SupportView) (same : s ≡ support_in grain e) (opening : ℕ) (opening_is : opening ≡ opening_share grain e) (budget : ℕ) (budget_is : budget ≡ e.budget)
    (elected : List ElectedView) (end : RaiseEnd) (h : IsTried m s budget (opening + raised * step) elected end) where
  ends_by : (by : RaiseEnd) → end ≡ by → IsRaiseEnd m s budget (opening + raised * step) by
  ends_by by is = subst (IsRaiseEnd m s budget (opening + raised * step)) is h.ends

  -- the opening share is not over
  pub raised_once : end ≡ Over → 0 < raised
  raised_once is = elim (cases_eq raised 0) [
    | inl none ↦ absurd (true≢false (sym (after_raises m grain e step 0 raised tried s same opening opening_is budget budget_is Over (ends_by Over is))
        ∙ ap (is_over_after m grain e step) none ∙ opening_not_over m grain e (rw same at h.is_support) step))
    | inr some ↦ omega arith
  ]

  pub goes_on : end ≡ GoesOn → (j : ℕ) → j < raised + 1 → is_decisive m grain e step j ≡ false
  goes_on is = end_goes_on m grain e step 0 raised tried s same opening opening_is budget budget_is (ends_by GoesOn is)

  pub over_decides : end ≡ Over → (limit : ℕ) → raised ≤ limit → add1_of m grain e step limit ≡ Some (raised - 1)
  over_decides is limit within = end_over m grain e step limit raised tried s same opening opening_is budget budget_is within (ends_by Over is)

  pub exhausted_decides : end ≡ Exhausted → (limit : ℕ) → raised ≤ limit → add1_of m grain e step limit ≡ Some raised
  exhausted_decides is limit within = end_exhausted m grain e step limit raised tried s same opening opening_is budget budget_is within (ends_by Exhausted is)

  pub goes_on_elects : end ≡ GoesOn → elected ≡ elected_after m grain e step raised
  goes_on_elects is =
      h.elected_are (λ over. goes_on_or_over end is over)
      ∙ ap (λ (t : SupportView). (run_of m t (opening + raised * step)).elected) same
      ∙ ap (λ n. (run_of m (support_in grain e) (n + raised * step)).elected) opening_is
    where
      goes_on_or_over : (end : RaiseEnd) → end ≡ GoesOn → end ≡ Over → ⊥
      goes_on_or_over end first second = cc

-- the end of one trial among others
pub ended : {T F : Type 0} (P : List ElectedView → RaiseEnd → Type 0) (elected_of : T → List ElectedView) (end_of : T → Result RaiseEnd F) (seen at : T) → seen ≡ at
    → IfOk (end_of at) (P (elected_of at)) → (end : RaiseEnd) → end_of seen ≡ Ok end → P (elected_of at) end
ended P elected_of end_of seen at same h end was = subst (λ r. IfOk r (P (elected_of at))) (ap end_of (sym same) ∙ was) h

-- jumping: every raise up to the target elects what the last one tried elected
module _ (m : Measure) (grain : Grain) (e : ElectionView) (step next target : ℕ) (some : 0 < next)
    (tried : (j : ℕ) → j < next → is_decisive m grain e step j ≡ false)
    (keeps : KeepsUpTo m (support_in grain e) (share_after grain e step (next - 1)) (share_after grain e step target)) where
  pub jumped : (j : ℕ) → j < target + 1 → is_decisive m grain e step j ≡ false
  jumped j below = elim (cases_lt j next) [
    | inl before ↦ tried j before
    | inr from ↦
        let here = tried (next - 1) (omega arith) in
        let parts = or_parts _ _ here in
        let low : share_after grain e step (next - 1) ≤ share_after grain e step j = (let more = mul-le-mul_right {m = next - 1} {n = j} step (omega arith) in omega arith) in
        let high : share_after grain e step j ≤ share_after grain e step target = (let more = mul-le-mul_right {m = j} {n = target} step (omega arith) in omega arith) in
        let alike = same_between m (support_in grain e) (share_after grain e step (next - 1)) (share_after grain e step j) (share_after grain e step target) low high keeps in
        or_from _ _
        (same_over (support_in grain e) e.budget (elected_after m grain e step j) (elected_after m grain e step (next - 1)) alike ∙ parts.0)
        (same_exhausted (support_in grain e) e.budget (elected_after m grain e step j) (elected_after m grain e step (next - 1)) alike ∙ parts.1)
  ]

-- what a trial keeps electing at a larger share, as the completion has it
module _ (m : Measure) (grain : Grain) (e : ElectionView) (s : SupportView) (same : s ≡ support_in grain e) (step raised opening share : ℕ)
    (opening_is : opening ≡ opening_share grain e) (share_is : share ≡ opening + raised * step) where
  share_is_after : share ≡ share_after grain e step raised
  share_is_after = share_is ∙ ap (λ n. n + raised * step) opening_is

  pub keeps_after : (last : ℕ) (elected : List ElectedView) → elected ≡ elected_after m grain e step last
      → KeepsElecting m s elected (replicate s.voters share) (range_with_len 0 (length s.costs))
      → KeepsUpTo m (support_in grain e) (share_after grain e step last) (share_after grain e step raised)
  keeps_after last elected elected_is h =
      subst (λ (ws : List ElectedView). KeepsElecting m (support_in grain e) ws (replicate (support_in grain e).voters (share_after grain e step raised))
      (range_with_len 0 (length (support_in grain e).costs))) elected_is
      (subst (λ n. KeepsElecting m (support_in grain e) elected (replicate (support_in grain e).voters n) (range_with_len 0 (length (support_in grain e).costs))) share_is_after
      (subst (λ (t : SupportView). KeepsElecting m t elected (replicate t.voters share) (range_with_len 0 (length t.costs))) same h))
