-- Limits of raises with which a completion ends, from counts by strides.
use Rattle.std.proofs.Common.{◌≡◌, ℕ, ◌+◌, ◌-◌, ◌*◌, ◌^◌, ◌<◌, ◌≤◌, true, false, Ok, Err, Result, List, length, Option, Some, None, refl, sym, subst, ◌∙◌, ap, inl, inr, min, arith}
use Rattle.std.specs.Prelude.{IfOk}
use Rattle.std.proofs.lemmas.Bool.{cases_eq}
use Rattle.std.proofs.Math.Nat.{mul-le-mul}
use Rattle.pb_core.specs.Election.{ElectionView}
use Rattle.pb_price.specs.Grain.{in_parts}
use Rattle.pb_price.specs.Supporters.{IsSupport, support_in}
use Rattle.pb_price.specs.declared.grain.Grain.{Grain}
use Rattle.pb_price.specs.declared.grain.Grain.TheVariants.{Fine, Hundredths}
use Rattle.pb_rounds.proofs.Counted.{step_small}
use Rattle.pb_rounds.proofs.RaisesEnd.{add1_completed, undecided_is_spent}
use Rattle.pb_rounds.specs.Cheapest.{IsRun}
use Rattle.pb_rounds.specs.Completed.{After, AreSpent, GoesOn, IsCompleted, IsExhausted}
use Rattle.pb_rounds.specs.Count.{add1_of, opening_share, spent_on, step_of}
use Rattle.pb_rounds.specs.CountFault.{most_raises}
use Rattle.pb_rounds.specs.Counted.{IsCountOf}
use Rattle.pb_rounds.specs.Inner.Counted.{CountsTo}
use Rattle.pb_rounds.specs.Outcome.{OutcomeView}
use Rattle.pb_rounds.specs.Run.{ElectedView}
use Rattle.pb_rounds.specs.declared.count_fault.CountFault.{CountFault}
use Rattle.pb_rounds.specs.declared.measure.Measure.{Measure}
use Rattle.pb_rounds.specs.declared.options.Completion.TheVariants.{Add1}
use Rattle.pb_rounds.specs.declared.options.CountOptions.{CountOptions}
use Rattle.pb_reasons.specs.RaiseLimit.{IsLimit}
use Rattle.pb_reasons.specs.Inner.Raises.{TellsExhausted}
use Rattle.pb_reasons.specs.Inner.Strides.{by_strides}
use Rattle.pb_reasons.specs.declared.raise_limit.RaiseLimit.TheVariants.{Enough, Least}
use Rattle.pb_reasons.specs.declared.raise_limit.Strides.{Strides}
use Rattle.pb_reasons.proofs.EachGrain.{exhausted_in, exhausted_of}
use Rattle.pb_reasons.proofs.RaiseEnds.{raised_share_is, same_elected, such_are}

module _ (m : Measure) (grain : Grain) (e : ElectionView) where
  -- two runs after as many raises elect the same
  clash : (step raises : ℕ) (IsSuch IsOther : List ElectedView → Type 0) → ((elected : List ElectedView) → IsSuch elected → IsOther elected → ⊥)
      → After m grain e step raises IsSuch → After m grain e step raises IsOther → ⊥
  clash step raises IsSuch IsOther differ (one, rests, run, such) (two, others, run2, other) =
      differ two
      (subst IsSuch (same_elected m (support_in grain e) (opening_share grain e + raises * step) (record { elected = one; rests = rests }) (record { elected = two; rests = others }) run run2) such)
      other

  -- a run after so many strides is one after all their raises
  single : (step length strides : ℕ) (IsSuch : List ElectedView → Type 0) → After m grain e (step * length) strides IsSuch → After m grain e step (strides * length) IsSuch
  single step length strides IsSuch (elected, rests, run, such) =
      let share : opening_share grain e + strides * (step * length) ≡ opening_share grain e + strides * length * step = omega arith in
      (elected, rests, subst (λ (n : ℕ). IsRun m (support_in grain e) n elected rests) share run, such)

  exhausted_ends : (step raises : ℕ) → After m grain e step raises (IsExhausted (support_in grain e) e.budget) → GoesOn m grain e step raises → ⊥
  exhausted_ends step raises now goes_on =
      clash step raises (IsExhausted (support_in grain e) e.budget)
      (λ elected. (¬ (e.budget < spent_on (support_in grain e) elected)) × (¬ IsExhausted (support_in grain e) e.budget elected))
      (λ elected is not. not.1 is) now goes_on

  over_ends : (step raises : ℕ) → After m grain e step raises (λ elected. e.budget < spent_on (support_in grain e) elected) → GoesOn m grain e step raises → ⊥
  over_ends step raises now goes_on =
      clash step raises (λ elected. e.budget < spent_on (support_in grain e) elected)
      (λ elected. (¬ (e.budget < spent_on (support_in grain e) elected)) × (¬ IsExhausted (support_in grain e) e.budget elected))
      (λ elected is not. not.0 is) now goes_on

  -- where strides end, the raises up to there are not spent
  not_spent : (step length most raised limit : ℕ) → IsCompleted m grain e (step * length) most raised → limit ≡ min (raised + 1) most * length → AreSpent m grain e step limit → ⊥
  not_spent step length most raised limit h is spent = elim h.ends [
    | inl exhausted ↦
        let fewer : raised ≤ min (raised + 1) most = omega (arith, h.within_limit) in
        let same : length ≤ length = omega arith in
        let within = mul-le-mul fewer same in
        exhausted_ends step (raised * length) (single step length raised (IsExhausted (support_in grain e) e.budget) exhausted) (spent (raised * length) (omega (arith, within, is)))
    | inr over ↦
        let less = over.1 in
        let all : min (raised + 1) most ≡ raised + 1 = omega (arith, less) in
        let same : limit ≡ (raised + 1) * length = is ∙ ap (λ n. n * length) all in
        over_ends step ((raised + 1) * length) (single step length (raised + 1) (λ elected. e.budget < spent_on (support_in grain e) elected) over.2)
        (spent ((raised + 1) * length) (omega (arith, same)))
  ]

  ended : IsSupport (support_in grain e) → (step limit : ℕ) → (AreSpent m grain e step limit → ⊥) → (o : Option ℕ) → add1_of m grain e step limit ≡ o → (raises : ℕ) × IsCompleted m grain e step limit raises
  ended h step limit unspent (Some raises) is = (raises, add1_completed m grain e h step limit raises is)
  ended h step limit unspent None is = absurd (unspent (undecided_is_spent m grain e step limit h is))

  -- where strides end, the completion ends with as many raises
  pub strides_end : IsSupport (support_in grain e) → (step length most raised limit : ℕ) → IsCompleted m grain e (step * length) most raised → limit ≡ min (raised + 1) most * length
      → (raises : ℕ) × IsCompleted m grain e step limit raises
  strides_end h step length most raised limit completed is =
      ended h step limit (not_spent step length most raised limit completed is) (add1_of m grain e step limit) refl

-- the least limit of raises, and how many it takes
pub record IsLeast (m : Measure) (grain : Grain) (e : ElectionView) (step limit raised : ℕ) : Type 0 where
  pub enough : IsCompleted m grain e step limit raised
  pub least : (fewer : ℕ) → fewer < limit → AreSpent m grain e step fewer

module _ (e : ElectionView) (options : CountOptions) (o : OutcomeView) (h : IsCountOf e options o) (add1 : options.completion ≡ Add1) where
  -- as many raises as those of an outcome that is exhausted
  pub least_exhausted : IsExhausted (support_in options.grain e) e.budget o.elected → IsLeast options.measure options.grain e (step_of e options) o.raised o.raised
  least_exhausted exhausted =
      let completed = h.completed add1 in
      record {
        enough = record {
          within_limit = omega arith;
          fewer_go_on = completed.fewer_go_on;
          ends = inl (o.elected, o.rests, subst (λ (n : ℕ). IsRun options.measure (support_in options.grain e) n o.elected o.rests) (raised_share_is e options o h add1) h.run_is, exhausted);
        };
        least = λ fewer less raises within. completed.fewer_go_on raises (omega arith);
      }

  -- one more than those of one that is not
  pub least_over : (¬ IsExhausted (support_in options.grain e) e.budget o.elected) → IsLeast options.measure options.grain e (step_of e options) (o.raised + 1) o.raised
  least_over not_yet =
      let completed = h.completed add1 in
      elim completed.ends [
        | inl now ↦ absurd (not_yet (such_are e options o h o.raised o.share (record { elected = o.elected; rests = o.rests }) (IsExhausted (support_in options.grain e) e.budget) (raised_share_is e options o h add1) h.run_is now))
        | inr next ↦ record {
          enough = record {
            within_limit = omega arith;
            fewer_go_on = completed.fewer_go_on;
            ends = inr (next.0, omega arith, next.2);
          };
          least = λ fewer less raises within. elim (cases_eq raises o.raised) [
            | inl same ↦ subst (GoesOn options.measure options.grain e (step_of e options)) (sym same) next.0
            | inr other ↦ completed.fewer_go_on raises (omega arith)
          ];
        }
      ]

  pub next_allowed : (¬ IsExhausted (support_in options.grain e) e.budget o.elected) → o.raised < options.max_raises
  next_allowed not_yet = elim (h.completed add1).ends [
    | inl now ↦ absurd (not_yet (such_are e options o h o.raised o.share (record { elected = o.elected; rests = o.rests }) (IsExhausted (support_in options.grain e) e.budget) (raised_share_is e options o h add1) h.run_is now))
    | inr next ↦ next.1
  ]

-- a count whose step is not cut off at the largest number is one by strides
pub strided_count : (e : ElectionView) (options : CountOptions) (strides : Strides) (step : ℕ) → step ≡ min (options.step * strides.length) (2 ^ 64 - 1)
    → (r : Result OutcomeView CountFault) → CountsTo e (record options { step = step; max_raises = strides.most; completion = Add1 }) r → IfOk r (IsCountOf e (by_strides options strides))
strided_count e options strides step is (Err fault) counted = tt
strided_count e options strides step is (Ok o) counted =
    let strided : CountOptions = record options { step = step; max_raises = strides.most; completion = Add1 } in
    let small = step_small strided counted.in_range.0 in
    let whole : step ≡ options.step * strides.length = omega (arith, is, small) in
    subst (λ (n : ℕ). IsCountOf e (record options { step = n; max_raises = strides.most; completion = Add1 }) o) whole counted

-- a step of several in parts
parts_of_product : (grain : Grain) (voters amount n : ℕ) → in_parts grain voters (amount * n) ≡ in_parts grain voters amount * n
parts_of_product Hundredths voters amount n = refl
parts_of_product Fine voters amount n = omega arith

-- the limits to which the outcome of a count by strides leads
module _ (e : ElectionView) (options : CountOptions) (strides : Strides) (few : strides.most * strides.length ≤ most_raises) (o : OutcomeView)
    (counted : IsCountOf e (by_strides options strides) o) where
  step_is : step_of e (by_strides options strides) ≡ step_of e options * strides.length
  step_is = parts_of_product options.grain (length e.voters) options.step strides.length

  pub strides_enough : (limit : ℕ) → limit ≡ min (o.raised + 1) strides.most * strides.length → IsLimit e options (Enough limit)
  strides_enough limit is =
      let fewer : min (o.raised + 1) strides.most ≤ strides.most = omega arith in
      let same : strides.length ≤ strides.length = omega arith in
      let product = mul-le-mul fewer same in
      let completed = subst (λ (n : ℕ). IsCompleted options.measure options.grain e n strides.most o.raised) step_is (counted.completed refl) in
      let end = strides_end options.measure options.grain e counted.run_is.is_support (step_of e options) strides.length strides.most o.raised limit completed is in
      (omega (arith, is, product, few), end.0, end.1)

  least_is : (limit : ℕ) → strides.length ≡ 1 → limit ≤ strides.most → IsLeast options.measure options.grain e (step_of e (by_strides options strides)) limit o.raised → IsLimit e options (Least limit)
  least_is limit one within least =
      let single : step_of e (by_strides options strides) ≡ step_of e options = omega (arith, step_is, ap (λ n. step_of e options * n) one) in
      let all : strides.most ≤ most_raises = omega (arith, few, ap (λ n. strides.most * n) one) in
      let own = subst (λ (n : ℕ). IsLeast options.measure options.grain e n limit o.raised) single least in
      ((omega (arith, within, all), o.raised, own.enough), own.least)

  pub least_of_exhausted : strides.length ≡ 1 → TellsExhausted e o true → IsLimit e options (Least o.raised)
  least_of_exhausted one exhausted =
      least_is o.raised one (counted.completed refl).within_limit (least_exhausted e (by_strides options strides) o counted refl (exhausted_in options.grain e e.budget o.elected exhausted))

  pub least_of_over : strides.length ≡ 1 → TellsExhausted e o false → IsLimit e options (Least (o.raised + 1))
  least_of_over one not_yet =
      let goes_on : ¬ IsExhausted (support_in options.grain e) e.budget o.elected = λ exhausted. not_yet (exhausted_of options.grain e e.budget o.elected exhausted) in
      let allowed = next_allowed e (by_strides options strides) o counted refl goes_on in
      least_is (o.raised + 1) one (omega (arith, allowed)) (least_over e (by_strides options strides) o counted refl goes_on)
