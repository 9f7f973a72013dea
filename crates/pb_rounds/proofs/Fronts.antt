-- The front: its rounds are the same at every larger share, and so is one round more where all who support its project can pay.
use Rattle.std.proofs.Common.{◌≡◌, ℕ, zero, suc, ◌+◌, ◌-◌, ◌*◌, ◌/◌, ◌%◌, ◌<◌, ◌≤◌, ◌^◌, min, get_or, List, [], ◌∷◌, ◌++◌, length, replicate, set, Option, Some, None, Bool, true, refl, sym, subst, ◌∙◌, ap, inl, inr, arith}
use Rattle.std.specs.Prelude.{All, IfNone, IfSome, MatchOption, slice_get, slice_index}
use Rattle.std.specs.List.{range_with_len}
use Rattle.std.proofs.Math.Nat.{mul-le-mul_right}
use Rattle.std.proofs.lemmas.Grind.{div_ceil_times}
use Rattle.std.proofs.lemmas.List.{get_or-map, get_or_default, length-map}
use Rattle.std.proofs.lemmas.List.Sums.{sum_by-append, sum_by_push}
use Rattle.std.proofs.lemmas.Option.{none-some, same_Some}
use Rattle.pb_price.proofs.SupporterLists.{cost_positive, support_form}
use Rattle.pb_price.specs.Price.{AreRests, PriceView, due, largest_share, price_at}
use Rattle.pb_price.specs.Inner.Lists.{NoRestRises}
use Rattle.pb_price.specs.Supporters.{IsSupport, SupportView, cost_at, supporters_at}
use Rattle.pb_rounds.specs.Count.{spent_on}
use Rattle.pb_rounds.specs.Inner.Bounds.{HasBounds, IsOpening}
use Rattle.pb_rounds.specs.Inner.Front.{CanAllPay, FrontView, IsFront, IsCopyUpTo, raised_by}
use Rattle.pb_rounds.specs.Inner.Progress.{Progress}
use Rattle.pb_rounds.specs.Inner.Queue.{AreMarked, IsIn}
use Rattle.pb_rounds.specs.Key.{KeyView}
use Rattle.pb_rounds.specs.Outcome.{OutcomeView}
use Rattle.pb_rounds.specs.Inner.RaiseEnds.{IsTried}
use Rattle.pb_rounds.specs.declared.raise_end.RaiseEnd.TheVariants.{Over}
use Rattle.pb_rounds.specs.Inner.Listed.{is_listed}
use Rattle.pb_rounds.specs.Run.{ElectedView, RunView, best_of, charged, elected_by, run_from, run_of, without}
use Rattle.pb_rounds.proofs.BoundQueue.{bounds_fall, charged_falls, head_is_best, head_taken, opening_bounds}
use Rattle.pb_rounds.proofs.Progress.{progress_more, progress_open}
use Rattle.pb_rounds.proofs.Exhausted.{over_from_more}
use Rattle.pb_rounds.proofs.TrialRounds.{Trying, cost_small, mark_more, spent_small}
use Rattle.pb_rounds.proofs.FrontSteps.{below_largest, bounds_up_to, charged_raised, paid_alike, pays_listed, price_stays, raised, raised_at, raised_pays, raised_twice, raised_zero, within_more}

-- ---- a front

pub front_open : (f : FrontView) → IsSupport f.support → f.outcome.share ≤ largest_share
    → f.outcome ≡ record { share = f.outcome.share; raised = 0; elected = []; rests = replicate f.support.voters f.outcome.share; priced = [] }
    → IsOpening f.measure f.support largest_share (length f.support.costs) f.queue → AreMarked f.support f.outcome.elected f.marks → f.spent ≡ 0 → IsFront f
front_open f is small o_is opens marked spent = record {
  is_support = is;
  left = range_with_len 0 (length f.support.costs);
  shared = λ more fits. subst (Progress f.measure f.support (f.outcome.share + more) 0 (range_with_len 0 (length f.support.costs)))
      (ap (λ rests. record { share = f.outcome.share + more; raised = 0; elected = []; rests = rests; priced = [] }) (sym (raised_replicate f.support.voters f.outcome.share more))
      ∙ sym (ap (raised_by more) o_is))
      (progress_open f.measure f.support (f.outcome.share + more) 0 fits);
  bounds = opening_bounds f.measure f.support largest_share f.queue opens;
  priced = opens.priced;
  marked = marked;
  spent_is = spent ∙ sym (ap (λ (o : OutcomeView). spent_on f.support o.elected) o_is);
  small = small;
  within = subst (λ (o : OutcomeView). NoRestRises (replicate f.support.voters f.outcome.share) o.rests) (sym o_is) (λ v. omega arith);
}
  where
    raised_replicate : (voters share more : ℕ) → raised more (replicate voters share) ≡ replicate voters (share + more)
    raised_replicate zero share more = refl
    raised_replicate (suc voters) share more = ap (λ rests. (share + more) ∷ rests) (raised_replicate voters share more)

module _ (f : FrontView) (h : IsFront f) where
  -- the front as it is at its own share
  pub rests_here : AreRests f.support.voters f.outcome.rests
  rests_here =
      let fits : f.outcome.share + 0 ≤ largest_share = (let small = h.small in omega arith) in
      subst (AreRests f.support.voters) (raised_zero f.outcome.rests) (h.shared 0 fits).rests_are

  pub queue_known : (b : KeyView) → IsIn b f.queue → b.place < length f.support.costs
  queue_known b i = h.bounds.known b.place (h.bounds.are_left b i)

  -- at a larger share
  pub raised_front : (more : ℕ) → f.outcome.share + more ≤ largest_share → IsFront (record {
    measure = f.measure;
    support = f.support;
    queue = f.queue;
    marks = f.marks;
    spent = f.spent;
    outcome = raised_by more f.outcome;
  })
  raised_front more fits = record {
    is_support = h.is_support;
    left = h.left;
    shared = λ further small.
        let sum : f.outcome.share + (more + further) ≡ f.outcome.share + more + further = omega arith in
        subst (λ n. Progress f.measure f.support n 0 h.left (record { share = n; raised = f.outcome.raised; elected = f.outcome.elected; rests = raised further (raised more f.outcome.rests); priced = f.outcome.priced })) sum
        (subst (λ rests. Progress f.measure f.support (f.outcome.share + (more + further)) 0 h.left
        (record { share = f.outcome.share + (more + further); raised = f.outcome.raised; elected = f.outcome.elected; rests = rests; priced = f.outcome.priced }))
        (raised_twice more further f.outcome.rests) (h.shared (more + further) (omega arith)));
    bounds = h.bounds;
    priced = h.priced;
    marked = h.marked;
    spent_is = h.spent_is;
    small = fits;
    within = λ v. within_more f.support.voters f.outcome.share more f.outcome.rests rests_here.one_each v (h.within v);
  }

  -- one round more, whose project all supporters can pay
  module _ (head : KeyView) (others : List KeyView) (is_first : f.queue ≡ head ∷ others) (can_pay : CanAllPay f.support f.outcome.rests head) where
    full : (v : ℕ) → is_listed (supporters_at f.support head.place) v ≡ true → due head.price ≤ slice_index f.outcome.rests v
    full = pays_listed (supporters_at f.support head.place) f.outcome.rests head.price can_pay

    first_bounds : HasBounds f.measure f.support (replicate f.support.voters largest_share) h.left (head ∷ others)
    first_bounds = subst (HasBounds f.measure f.support (replicate f.support.voters largest_share) h.left) is_first h.bounds

    is_queued : IsIn head f.queue
    is_queued = subst (IsIn head) (sym is_first) (inl refl)

    pub next_known : head.place < length f.support.costs
    next_known = queue_known head is_queued

    -- it is the best at each larger share
    module _ (more : ℕ) (fits : f.outcome.share + more ≤ largest_share) where
      rests_fall : NoRestRises (replicate f.support.voters largest_share) (raised more f.outcome.rests)
      rests_fall = below_largest f.support.voters (raised more f.outcome.rests) (h.shared more fits).rests_are

      can_pay_there : CanAllPay f.support (raised more f.outcome.rests) head
      can_pay_there k d below = raised_pays more head.price.amount head.price.payers f.outcome.rests (get_or (supporters_at f.support head.place) k d) (can_pay k d below)

      full_there : (v : ℕ) → is_listed (supporters_at f.support head.place) v ≡ true → due head.price ≤ slice_index (raised more f.outcome.rests) v
      full_there = pays_listed (supporters_at f.support head.place) (raised more f.outcome.rests) head.price can_pay_there

      price_there : price_at f.support (raised more f.outcome.rests) head.place ≡ Some head.price
      price_there = price_stays f.support head.place (cost_positive f.support h.is_support head.place next_known) (replicate f.support.voters largest_share) (raised more f.outcome.rests)
          head.price rests_fall can_pay_there (h.priced head is_queued)

      best_there : best_of f.measure f.support (raised more f.outcome.rests) h.left ≡ Some head
      best_there = head_is_best f.measure f.support (raised more f.outcome.rests) h.left head others
          (bounds_fall f.measure f.support (replicate f.support.voters largest_share) (raised more f.outcome.rests) h.left (head ∷ others) rests_fall first_bounds)
          price_there

      same_round : ◌≡◌ {A = OutcomeView}
          (record {
            share = f.outcome.share + more;
            raised = f.outcome.raised;
            elected = f.outcome.elected ++ elected_by f.support (raised more f.outcome.rests) head ∷ [];
            rests = charged (supporters_at f.support head.place) (due head.price) (raised more f.outcome.rests);
            priced = f.outcome.priced;
          })
          (record {
            share = f.outcome.share + more;
            raised = f.outcome.raised;
            elected = f.outcome.elected ++ elected_by f.support f.outcome.rests head ∷ [];
            rests = raised more (charged (supporters_at f.support head.place) (due head.price) f.outcome.rests);
            priced = f.outcome.priced;
          })
      same_round =
          ap (λ n. record {
            share = f.outcome.share + more;
            raised = f.outcome.raised;
            elected = f.outcome.elected ++ record { place = head.place; price = due head.price; exact = head.price; collected = n } ∷ [];
            rests = charged (supporters_at f.support head.place) (due head.price) (raised more f.outcome.rests);
            priced = f.outcome.priced;
          })
          (paid_alike (supporters_at f.support head.place) (raised more f.outcome.rests) f.outcome.rests (due head.price) full_there full)
          ∙ ap (λ rests. record {
            share = f.outcome.share + more;
            raised = f.outcome.raised;
            elected = f.outcome.elected ++ elected_by f.support f.outcome.rests head ∷ [];
            rests = rests;
            priced = f.outcome.priced;
          })
          (charged_raised (supporters_at f.support head.place) (due head.price) more f.outcome.rests full)

    pub price_here : price_at f.support f.outcome.rests head.place ≡ Some head.price
    price_here =
        let fits : f.outcome.share + 0 ≤ largest_share = (let small = h.small in omega arith) in
        subst (λ rests. price_at f.support rests head.place ≡ Some head.price) (raised_zero f.outcome.rests) (price_there 0 fits)

    pub next_front : (marks : List Bool) → marks ≡ set f.marks head.place true → (spent : ℕ) → spent ≡ f.spent + cost_at f.support head.place
        → (outcome : OutcomeView)
        → outcome ≡ record {
          share = f.outcome.share;
          raised = f.outcome.raised;
          elected = f.outcome.elected ++ elected_by f.support f.outcome.rests head ∷ [];
          rests = charged (supporters_at f.support head.place) (due head.price) f.outcome.rests;
          priced = f.outcome.priced;
        }
        → IsFront (record { measure = f.measure; support = f.support; queue = others; marks = marks; spent = spent; outcome = outcome })
    next_front marks marks_are spent spent_is outcome outcome_is =
        subst (λ (o : OutcomeView). IsFront (record { measure = f.measure; support = f.support; queue = others; marks = marks; spent = spent; outcome = o })) (sym outcome_is) (record {
          is_support = h.is_support;
          left = without head.place h.left;
          shared = λ more fits. subst (Progress f.measure f.support (f.outcome.share + more) 0 (without head.place h.left)) (same_round more fits)
              (progress_more f.measure f.support (f.outcome.share + more) 0 h.left (raised_by more f.outcome) (h.shared more fits) head (best_there more fits));
          bounds = head_taken f.measure f.support (replicate f.support.voters largest_share) h.left head others first_bounds;
          priced = λ b i. h.priced b (subst (IsIn b) (sym is_first) (inr i));
          marked = subst (AreMarked f.support (f.outcome.elected ++ elected_by f.support f.outcome.rests head ∷ [])) (sym marks_are)
              (mark_more f.support f.outcome.elected f.marks h.marked (elected_by f.support f.outcome.rests head) next_known);
          spent_is = spent_is ∙ ap (λ n. n + cost_at f.support head.place) h.spent_is
              ∙ sym (sum_by_push (λ w. cost_at f.support w.place) f.outcome.elected (elected_by f.support f.outcome.rests head));
          small = h.small;
          within = λ v. (let less = charged_falls (supporters_at f.support head.place) (due head.price) f.outcome.rests v in omega (arith, less, h.within v));
        })

    -- what the front spends fits its type
    pub next_spent_fits : f.spent + cost_at f.support head.place < 2 ^ 128
    next_spent_fits =
        let fits : f.outcome.share + 0 ≤ largest_share = (let small = h.small in omega arith) in
        omega (
          arith,
          h.spent_is,
          spent_small f.support h.is_support f.outcome.elected,
          cost_small f.support h.is_support head.place,
          (h.shared 0 fits).counted,
          (support_form f.support h.is_support).few_projects,
        )

-- what is added to each rest fits
pub raised_fits : (f : FrontView) → IsFront f → (more : ℕ) → f.outcome.share + more ≤ largest_share → All (λ rest. rest + more ≤ largest_share) f.outcome.rests
raised_fits f h more fits k d below =
    let raised_ones = (h.shared more fits).rests_are.bounded k 0 (omega (arith, length-map f.outcome.rests (λ rest. rest + more))) in
    omega (arith, raised_ones, raised_at more f.outcome.rests k below, get_or_default f.outcome.rests k d 0 below)

pub first_in : (queue : List KeyView) (first : KeyView) → slice_get queue 0 ≡ Some first → IsIn first queue
first_in [] first e = absurd (none-some first e)
first_in (b ∷ queue) first e = inl (sym (same_Some _ _ e))

-- the rests of a front that is raised
pub raised_small : (f : FrontView) → IsFront f → (more : ℕ) → f.outcome.share + more ≤ largest_share → All (λ rest. rest + more ≤ largest_share) f.outcome.rests
raised_small f h more fits = λ k d below.
    let bounded = (h.shared more fits).rests_are.bounded k (d + more) (rw (length-map f.outcome.rests (λ rest. rest + more)) below) in
    subst (λ n. n ≤ largest_share) (get_or-map (λ rest. rest + more) f.outcome.rests k d (d + more) below) bounded

-- ---- taking the next project

pub pays_by : (s : SupportView) (list seen rests : List ℕ) (least place : ℕ) (price : PriceView) (b : KeyView) → list ≡ supporters_at s place → place ≡ b.place → seen ≡ rests → price ≡ b.price
    → 1 ≤ price.payers → least ≡ price.amount / price.payers + min 1 (price.amount % price.payers) → All (λ v. least ≤ slice_index seen v) list → CanAllPay s rests b
pays_by s list seen rests least place price b list_is place_is rests_is price_is some least_is h =
    subst (λ (p : PriceView). All (λ v. p.amount ≤ slice_index rests v * p.payers) (supporters_at s b.place)) price_is
    (subst (λ (rs : List ℕ). All (λ v. price.amount ≤ slice_index rs v * price.payers) (supporters_at s b.place)) rests_is
    (subst (λ (xs : List ℕ). All (λ v. price.amount ≤ slice_index seen v * price.payers) xs) (list_is ∙ ap (supporters_at s) place_is)
    (λ k d below. pays_rounded_up price (slice_index seen (get_or list k d)) some (let enough = h k d below in omega (arith, enough, least_is)))))
  where
    -- who has it rounded up can pay it in full
    pays_rounded_up : (p : PriceView) (rest : ℕ) → 1 ≤ p.payers → p.amount / p.payers + min 1 (p.amount % p.payers) ≤ rest → p.amount ≤ rest * p.payers
    pays_rounded_up p rest some enough =
        let bounds = div_ceil_times p.amount p.payers some in
        let most : (p.amount / p.payers + min 1 (p.amount % p.payers)) * p.payers ≤ rest * p.payers = mul-le-mul_right p.payers enough in
        omega (arith, bounds.0, most)

pub taken_is : (o : Option KeyView) (old new : List KeyView) (first : KeyView) (s : SupportView) (rests : List ℕ) → slice_get old 0 ≡ Some first
    → IfSome o (λ k. old ≡ k ∷ new) → IfNone o (new ≡ old) → CanAllPay s rests first
    → MatchOption o (new ≡ old) (λ head. (old ≡ head ∷ new) × CanAllPay s rests head)
taken_is None old new first s rests at removed same pays = same
taken_is (Some k) old new first s rests at removed same pays =
    let equal : first ≡ k = same_Some _ _ (sym at ∙ ap (λ (xs : List KeyView). slice_get xs 0) removed) in
    (removed, subst (CanAllPay s rests) equal pays)

-- ---- a trial that begins behind the front

module _ (f : FrontView) (h : IsFront f) (share : ℕ) (from : f.outcome.share ≤ share) (small : share ≤ largest_share) where
  sum : f.outcome.share + (share - f.outcome.share) ≡ share
  sum = omega arith

  progress_there : Progress f.measure f.support share 0 h.left (raised_by (share - f.outcome.share) f.outcome)
  progress_there = subst (λ n. Progress f.measure f.support n 0 h.left (raised_by (share - f.outcome.share) f.outcome)) sum
      (h.shared (share - f.outcome.share) (omega (arith, sum)))

  within_there : NoRestRises (replicate f.support.voters share) (raised (share - f.outcome.share) f.outcome.rests)
  within_there v = subst (λ n. slice_index (raised (share - f.outcome.share) f.outcome.rests) v ≤ slice_index (replicate f.support.voters n) v) sum
      (within_more f.support.voters f.outcome.share (share - f.outcome.share) f.outcome.rests (rests_here f h).one_each v (h.within v))

  pub front_tries : (queue : List KeyView) → IsCopyUpTo share f.queue queue → (o : OutcomeView) → o ≡ raised_by (share - f.outcome.share) f.outcome
      → (marks : List Bool) → marks ≡ f.marks → (spent : ℕ) → spent ≡ f.spent → Trying f.measure f.support share queue o marks spent
  front_tries queue kept o o_is marks marks_are spent spent_is =
      subst (λ (x : OutcomeView). Trying f.measure f.support share queue x marks spent) (sym o_is) (record {
        bounded = record {
          left = h.left;
          progress = progress_there;
          bounds = bounds_up_to f.measure f.support h.is_support share (raised (share - f.outcome.share) f.outcome.rests) h.left f.queue queue within_there
              (bounds_fall f.measure f.support (replicate f.support.voters largest_share) (raised (share - f.outcome.share) f.outcome.rests) h.left f.queue
              (below_largest f.support.voters (raised (share - f.outcome.share) f.outcome.rests) progress_there.rests_are) h.bounds) kept;
        };
        marked = subst (AreMarked f.support f.outcome.elected) (sym marks_are) h.marked;
        spent_is = spent_is ∙ h.spent_is;
      })

  -- what the whole run spends is no less
  pub front_over : (budget spent : ℕ) → spent ≡ f.spent → budget < spent → (elected : List ElectedView) → IsTried f.measure f.support budget share elected Over
  front_over budget spent spent_is more elected =
      let later = (run_from f.measure f.support (length h.left) (raised (share - f.outcome.share) f.outcome.rests) h.left).elected in
      let whole : spent_on f.support (run_of f.measure f.support share).elected ≡ spent_on f.support f.outcome.elected + spent_on f.support later =
      ap (λ (r : RunView). spent_on f.support r.elected) progress_there.whole ∙ sum_by-append (λ w. cost_at f.support w.place) f.outcome.elected later in
      record {
        is_support = h.is_support;
        ends = over_from_more f.support budget (run_of f.measure f.support share).elected (omega (arith, whole, more, spent_is, h.spent_is));
        elected_are = λ other. absurd (other refl);
      }
