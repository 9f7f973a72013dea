-- A trial: how far its run has come, the marks of the elected, and what they cost; and one round more that follows a smaller share.
use Rattle.std.proofs.Common.{◌≡◌, ℕ, zero, suc, ◌+◌, ◌-◌, ◌*◌, ◌^◌, ◌<◌, ◌≤◌, List, [], ◌∷◌, ◌++◌, length, get_or, set, drop, replicate, Some, None, Bool, true, false, refl, sym, subst, ◌∙◌, ap, inl, inr, arith, ◌||◌}
use Rattle.std.specs.Prelude.{◌==◌, slice_index_or}
use Rattle.std.specs.List.{range_with_len}
use Rattle.std.proofs.lemmas.Bool.{cases_eq, cases_lt, eq-eqb, ne_eqb, or_left, or_right}
use Rattle.std.proofs.lemmas.List.{length-replicate, length-set, get_or_past, get_or-replicate, get_or-set_same, get_or-set_other}
use Rattle.std.proofs.lemmas.List.Folds.{list_any-append}
use Rattle.std.proofs.lemmas.List.Sums.{sum_by_push, sum_by-append, sum_by-cons}
use Rattle.pb_core.specs.Money.{largest_money}
use Rattle.pb_price.proofs.SupporterLists.{support_form}
use Rattle.pb_price.specs.Price.{PriceView, due, largest_share, price_at}
use Rattle.pb_price.specs.Supporters.{IsSupport, SupportView, cost_at, supporters_at}
use Rattle.pb_rounds.specs.declared.measure.Measure.{Measure}
use Rattle.pb_rounds.specs.declared.raise_end.RaiseEnd.TheVariants.{GoesOn, Exhausted, Over}
use Rattle.pb_rounds.specs.Inner.Between.{KeepsElecting}
use Rattle.pb_rounds.specs.Inner.Bounds.{FindsBest, Follows, HasBounds, IsOpening}
use Rattle.pb_rounds.specs.Count.{is_exhausted, is_over, spent_on}
use Rattle.pb_rounds.specs.Key.{KeyView, is_before}
use Rattle.pb_rounds.specs.Outcome.{OutcomeView, Settled}
use Rattle.pb_rounds.specs.Inner.Queue.{AreMarked}
use Rattle.pb_rounds.specs.Inner.RaiseEnds.{IsTried}
use Rattle.pb_rounds.specs.Inner.Listed.{is_listed}
use Rattle.pb_rounds.specs.Run.{ElectedView, RunView, best_of, charged, elected_by, is_elected, key_of, run_from, run_of, without}
use Rattle.pb_rounds.proofs.BestKey.{best_is_key}
use Rattle.pb_rounds.proofs.BestIs.{no_best}
use Rattle.pb_rounds.proofs.BoundQueue.{bounds_fall, charged_falls, nothing_found, opening_bounds}
use Rattle.pb_rounds.proofs.Exhausted.{over_from_more, over_from_within}
use Rattle.pb_rounds.proofs.Listed.{RisesWithin-below, length-without_one, listed-below}
use Rattle.pb_rounds.proofs.Progress.{Progress, progress_end, progress_more, progress_open}

is_elected-push : (elected : List ElectedView) (w : ElectedView) (place : ℕ) → is_elected (elected ++ w ∷ []) place ≡ (is_elected elected place || ((w.place == place) || false))
is_elected-push elected w place = list_any-append (λ v. v.place == place) elected (w ∷ [])

or_false : (b : Bool) → (b || (false || false)) ≡ b
or_false true = refl
or_false false = refl

-- one mark more
pub mark_more : (s : SupportView) (elected : List ElectedView) (marks : List Bool) → AreMarked s elected marks → (w : ElectedView) → w.place < length s.costs
    → AreMarked s (elected ++ w ∷ []) (set marks w.place true)
mark_more s elected marks h w known = record {
  one_each = length-set marks w.place true ∙ h.one_each;
  marked = λ place below. elim (cases_eq place w.place) [
    | inl same ↦ ap (λ n. slice_index_or (set marks w.place true) n false) same ∙ get_or-set_same marks w.place true false (omega (arith, h.one_each))
        ∙ sym (is_elected-push elected w place ∙ or_right (is_elected elected place) _ (or_left (w.place == place) false (eq-eqb w.place place (sym same))))
    | inr other ↦ get_or-set_other marks w.place place true false other ∙ h.marked place below
        ∙ sym (is_elected-push elected w place ∙ ap (λ b. is_elected elected place || (b || false)) (ne_eqb w.place place (λ e. other (sym e))) ∙ or_false (is_elected elected place))
  ];
}

pub cost_small : (s : SupportView) → IsSupport s → (place : ℕ) → cost_at s place ≤ largest_money
cost_small s h place = elim (cases_lt place (length s.costs)) [
  | inl below ↦ (support_form s h).costs_bounded place 0 below
  | inr past ↦ let none = get_or_past s.costs place 0 past in omega (arith, none)
]

pub spent_small : (s : SupportView) → IsSupport s → (elected : List ElectedView) → spent_on s elected ≤ length elected * largest_money
spent_small s h [] = omega arith
spent_small s h (w ∷ elected) =
    omega (arith, spent_small s h elected, cost_small s h w.place, sum_by-cons (λ v. cost_at s v.place) w elected)

-- how far a run at this share has come, with a queue of bounds
pub record Bounded (m : Measure) (s : SupportView) (share : ℕ) (queue : List KeyView) (o : OutcomeView) : Type 0 where
  pub left : List ℕ
  pub progress : Progress m s share 0 left o
  pub bounds : HasBounds m s o.rests left queue

-- the best was found, and its supporters paid
module _ (m : Measure) (s : SupportView) (share : ℕ) (left : List ℕ) (o : OutcomeView) (pr : Progress m s share 0 left o) (w : KeyView)
    (best : best_of m s o.rests left ≡ Some w) where
  pub best_known : w.place < length s.costs
  best_known = listed-below left (length s.costs) w.place (RisesWithin-below left 0 (length s.costs) pr.rises) (best_is_key m s o.rests left w best).is_left

  pub best_price : price_at s o.rests w.place ≡ Some w.price
  best_price = (best_is_key m s o.rests left w best).is_price

  module _ (queue : List KeyView) (bounds : HasBounds m s o.rests (without w.place left) queue) (paid : OutcomeView)
      (paid_is : paid ≡ record o { elected = o.elected ++ elected_by s o.rests w ∷ []; rests = charged (supporters_at s w.place) (due w.price) o.rests }) where
    pub goes_on : Progress m s share 0 (without w.place left) paid
    goes_on =
        subst (Progress m s share 0 (without w.place left)) (sym paid_is) (progress_more m s share 0 left o pr w best)

    pub bounded_more : HasBounds m s paid.rests (without w.place left) queue
    bounded_more =
        subst (λ (x : OutcomeView). HasBounds m s x.rests (without w.place left) queue) (sym paid_is)
        (bounds_fall m s o.rests (charged (supporters_at s w.place) (due w.price) o.rests) (without w.place left) queue
        (charged_falls (supporters_at s w.place) (due w.price) o.rests) bounds)

    pub fewer_rounds : length s.costs - length paid.elected < length s.costs - length o.elected
    fewer_rounds =
        let one_less = length-without_one left 0 (length s.costs) w.place pr.rises (best_is_key m s o.rests left w best).is_left in
        omega (arith, one_less, goes_on.counted, pr.counted)

-- nobody is left who can be paid: the outcome is that of the run
pub ends_here : (m : Measure) (s : SupportView) (share : ℕ) (left : List ℕ) (o : OutcomeView) → Progress m s share 0 left o
    → ((place : ℕ) → is_listed left place ≡ true → price_at s o.rests place ≡ None) → o.elected ≡ (run_of m s share).elected
ends_here m s share left o pr none =
    ap (λ (x : Settled). x.elected) (progress_end m s share 0 left o pr (no_best m s o.rests left none))

-- a trial so far, with the marks of the elected and what they cost
pub record Trying (m : Measure) (s : SupportView) (share : ℕ) (queue : List KeyView) (o : OutcomeView) (marks : List Bool) (spent : ℕ) : Type 0 where
  pub bounded : Bounded m s share queue o
  pub marked : AreMarked s o.elected marks
  pub spent_is : spent ≡ spent_on s o.elected

pub nobody_marked : (s : SupportView) (o : OutcomeView) → o.elected ≡ [] → (marks : List Bool) → marks ≡ replicate (length s.costs) false
    → AreMarked s o.elected marks
nobody_marked s o none marks marks_are =
    subst (λ (ws : List ElectedView). AreMarked s ws marks) (sym none) (record {
      one_each = ap length marks_are ∙ length-replicate (length s.costs) false;
      marked = λ place below. ap (λ (xs : List Bool). slice_index_or xs place false) marks_are ∙ get_or-replicate (length s.costs) place false false below;
    })

-- one round of a trial
module _ (m : Measure) (s : SupportView) (is : IsSupport s) (share : ℕ) (queue : List KeyView) (o : OutcomeView) (marks : List Bool) (spent : ℕ)
    (t : Trying m s share queue o marks spent) (w : KeyView) (rest : List KeyView) (found : FindsBest m s o.rests t.bounded.left None rest (Some w)) where
  pub mark_known : w.place < length marks
  mark_known =
      let known = best_known m s share t.bounded.left o t.bounded.progress w found.0 in
      omega (arith, known, t.marked.one_each)

  pub spent_fits : spent + cost_at s w.place < 2 ^ 128
  spent_fits =
      omega (arith, t.spent_is, spent_small s is o.elected, cost_small s is w.place, t.bounded.progress.counted, (support_form s is).few_projects)

  module _ (paid : OutcomeView)
      (paid_is : paid ≡ record o { elected = o.elected ++ elected_by s o.rests w ∷ []; rests = charged (supporters_at s w.place) (due w.price) o.rests })
      (sum : ℕ) (sum_is : sum ≡ spent + cost_at s w.place) where
    spent_more : sum ≡ spent_on s paid.elected
    spent_more = sum_is ∙ ap (λ n. n + cost_at s w.place) t.spent_is ∙ sym (ap (λ (x : OutcomeView). spent_on s x.elected) paid_is
        ∙ sum_by_push (λ v. cost_at s v.place) o.elected (elected_by s o.rests w))

    pub trying_more : (next : List Bool) → next ≡ set marks w.place true → Trying m s share rest paid next sum
    trying_more next next_is = record {
      bounded = record {
        left = without w.place t.bounded.left;
        progress = goes_on m s share t.bounded.left o t.bounded.progress w found.0 rest found.1 paid paid_is;
        bounds = bounded_more m s share t.bounded.left o t.bounded.progress w found.0 rest found.1 paid paid_is;
      };
      marked = subst (AreMarked s paid.elected) (sym next_is)
          (subst (λ (x : OutcomeView). AreMarked s x.elected (set marks w.place true)) (sym paid_is)
          (mark_more s o.elected marks t.marked (elected_by s o.rests w) (best_known m s share t.bounded.left o t.bounded.progress w found.0)));
      spent_is = spent_more;
    }

    -- what the whole run spends is no less
    pub over_budget : (budget : ℕ) → budget < sum → (elected : List ElectedView) → IsTried m s budget share elected Over
    over_budget budget more elected =
        let next = goes_on m s share t.bounded.left o t.bounded.progress w found.0 rest found.1 paid paid_is in
        let whole : spent_on s (run_of m s share).elected ≡ spent_on s paid.elected
        + spent_on s (run_from m s (length (without w.place t.bounded.left)) paid.rests (without w.place t.bounded.left)).elected =
        ap (λ (r : RunView). spent_on s r.elected) next.whole ∙ sum_by-append (λ v. cost_at s v.place) paid.elected _ in
        record {
          is_support = is;
          ends = over_from_more s budget (run_of m s share).elected (omega (arith, whole, more, spent_more));
          elected_are = λ other. absurd (other refl);
        }

-- a trial whose queue has nobody more who can be paid
module _ (m : Measure) (s : SupportView) (is : IsSupport s) (share budget : ℕ) (queue rest : List KeyView) (o : OutcomeView) (marks : List Bool) (spent : ℕ)
    (t : Trying m s share queue o marks spent) (within : spent ≤ budget) (found : FindsBest m s o.rests t.bounded.left None rest None)
    (exhausted : Bool) (says : (elected : List ElectedView) → AreMarked s elected marks → spent ≡ spent_on s elected → exhausted ≡ is_exhausted s budget elected) where
  whole : o.elected ≡ (run_of m s share).elected
  whole = ends_here m s share t.bounded.left o t.bounded.progress (nothing_found m s o.rests t.bounded.left rest found)

  not_over : is_over s budget (run_of m s share).elected ≡ false
  not_over = ap (is_over s budget) (sym whole) ∙ over_from_within s budget o.elected (omega (arith, t.spent_is, within))

  is_exhausted_alike : is_exhausted s budget (run_of m s share).elected ≡ exhausted
  is_exhausted_alike = ap (is_exhausted s budget) (sym whole) ∙ sym (says o.elected t.marked t.spent_is)

  pub ends_exhausted : exhausted ≡ true → IsTried m s budget share o.elected Exhausted
  ends_exhausted yes_it_is = record { is_support = is; ends = (not_over, is_exhausted_alike ∙ yes_it_is); elected_are = λ _. whole }

  pub ends_going_on : exhausted ≡ false → IsTried m s budget share o.elected GoesOn
  ends_going_on it_is_not = record { is_support = is; ends = (not_over, is_exhausted_alike ∙ it_is_not); elected_are = λ _. whole }

-- ---- following a smaller share: what keeps electing from here keeps electing from the start
pub record Following (m : Measure) (s : SupportView) (share : ℕ) (last : List ElectedView) (i : ℕ) (queue : List KeyView) (o : OutcomeView) : Type 0 where
  pub bounded : Bounded m s share queue o
  pub keeps : KeepsElecting m s (drop i last) o.rests bounded.left
      → KeepsElecting m s last (replicate s.voters share) (range_with_len 0 (length s.costs))

pub following_open : (m : Measure) (s : SupportView) (share : ℕ) → share ≤ largest_share → (last : List ElectedView) (queue : List KeyView)
    → IsOpening m s share (length s.costs) queue
    → (o : OutcomeView) → o ≡ record { share = share; raised = 0; elected = []; rests = replicate s.voters share; priced = [] }
    → Following m s share last 0 queue o
following_open m s share small last queue opens o o_is =
    subst (λ (x : OutcomeView). Following m s share last 0 queue x) (sym o_is) (record {
      bounded = record {
        left = range_with_len 0 (length s.costs);
        progress = progress_open m s share 0 small;
        bounds = opening_bounds m s share queue opens;
      };
      keeps = λ h. h;
    })

drop_suc : (xs : List ElectedView) (i : ℕ) (d : ElectedView) → i < length xs → drop i xs ≡ get_or xs i d ∷ drop (suc i) xs
drop_suc [] i d below = absurd (omega arith)
drop_suc (x ∷ xs) zero d below = refl
drop_suc (x ∷ xs) (suc i) d below = drop_suc xs i d (omega arith)

drop_one : (xs : List ElectedView) (i : ℕ) (d : ElectedView) → i < length xs → drop i xs ≡ get_or xs i d ∷ drop (i + 1) xs
drop_one xs i d below =
    let next : suc i ≡ i + 1 = omega arith in
    drop_suc xs i d below ∙ ap (λ n. get_or xs i d ∷ drop n xs) next

module _ (m : Measure) (s : SupportView) (share : ℕ) (last : List ElectedView) (i : ℕ) (below : i < length last) (queue : List KeyView) (o : OutcomeView)
    (f : Following m s share last i queue o) (w : ElectedView) (w_is : w ≡ get_or last i w) (next : OutcomeView) (rest : List KeyView)
    (h : Follows m s f.bounded.left w o next rest) where
  keeps_from : KeepsElecting m s (drop (i + 1) last) next.rests (without h.best.place f.bounded.left) → KeepsElecting m s (drop i last) o.rests f.bounded.left
  keeps_from later =
      subst (λ (ws : List ElectedView). KeepsElecting m s ws o.rests f.bounded.left)
      (sym (drop_one last i w below ∙ ap (λ (v : ElectedView). v ∷ drop (i + 1) last) (sym w_is)))
      (subst (λ n. (price : PriceView) × (price_at s o.rests n ≡ Some price)
      × ((other : ℕ) (p : PriceView) → is_listed (without n f.bounded.left) other ≡ true → price_at s o.rests other ≡ Some p → is_before (key_of m s n w.exact) (key_of m s other p) ≡ true)
      × KeepsElecting m s (drop (i + 1) last) (charged (supporters_at s n) (due price) o.rests) (without n f.bounded.left)) h.same (
        h.best.price,
        best_price m s share f.bounded.left o f.bounded.progress h.best h.is_best,
        h.others,
        subst (λ (x : OutcomeView). KeepsElecting m s (drop (i + 1) last) x.rests (without h.best.place f.bounded.left)) h.elects later,
      ))

  pub following_more : Following m s share last (i + 1) rest next
  following_more = record {
    bounded = record {
      left = without h.best.place f.bounded.left;
      progress = goes_on m s share f.bounded.left o f.bounded.progress h.best h.is_best rest h.bounds next h.elects;
      bounds = bounded_more m s share f.bounded.left o f.bounded.progress h.best h.is_best rest h.bounds next h.elects;
    };
    keeps = λ later. f.keeps (keeps_from later);
  }

drop_past : (xs : List ElectedView) (i : ℕ) → length xs ≤ i → drop i xs ≡ []
drop_past [] zero h = refl
drop_past [] (suc i) h = refl
drop_past (x ∷ xs) zero h = absurd (omega arith)
drop_past (x ∷ xs) (suc i) h = drop_past xs i (omega arith)

module _ (m : Measure) (s : SupportView) (share : ℕ) (last : List ElectedView) (i : ℕ) (all : length last ≤ i) (queue rest : List KeyView) (o : OutcomeView)
    (f : Following m s share last i queue o) (found : FindsBest m s o.rests f.bounded.left None rest None) where
  pub keeps_all : KeepsElecting m s last (replicate s.voters share) (range_with_len 0 (length s.costs))
  keeps_all = f.keeps (subst (λ (ws : List ElectedView). KeepsElecting m s ws o.rests f.bounded.left) (sym (drop_past last i all))
      (nothing_found m s o.rests f.bounded.left rest found))

  pub keeps_ends : o.elected ≡ (run_of m s share).elected
  keeps_ends = ends_here m s share f.bounded.left o f.bounded.progress (nothing_found m s o.rests f.bounded.left rest found)
