-- The shares, the rests and the ties of rounds.
use Rattle.std.proofs.Common.{◌≡◌, ℕ, ◌+◌, ◌<◌, ◌≤◌, false, List, [], ◌∷◌, ◌++◌, Some, length, get_or, map, take, replicate, refl, sym, ◌∙◌, ap, arith}
use Rattle.std.specs.Prelude.{filter}
use Rattle.std.specs.List.{range_with_len}
use Rattle.std.proofs.lemmas.List.{take_more}
use Rattle.std.proofs.lemmas.Option.{slice_get_read}
use Rattle.std.proofs.Math.Nat.{mul-le-mul_right}
use Rattle.pb_core.specs.Election.{ElectionView}
use Rattle.pb_price.specs.Price.{largest_share}
use Rattle.pb_price.specs.Supporters.{SupportView, supporters_at}
use Rattle.pb_price.specs.declared.grain.Grain.{Grain}
use Rattle.pb_rounds.specs.Cheapest.{rests_after}
use Rattle.pb_rounds.specs.Count.{is_too_fine, share_by, step_of}
use Rattle.pb_rounds.specs.Counted.{IsCountOf}
use Rattle.pb_rounds.specs.Outcome.{OutcomeView}
use Rattle.pb_rounds.specs.Run.{ElectedView, charged}
use Rattle.pb_rounds.specs.declared.measure.Measure.{Measure}
use Rattle.pb_rounds.specs.declared.options.Completion.{Completion}
use Rattle.pb_rounds.specs.declared.options.Completion.TheVariants.{Plain, Add1, NoShares}
use Rattle.pb_rounds.specs.declared.options.CountOptions.{CountOptions}
use Rattle.pb_rounds.proofs.Counted.{fine_in_words}
use Rattle.pb_reasons.specs.Ties.{is_tied, ties_in}

-- ---- a share is at most the largest

pub few_raises : (e : ElectionView) (options : CountOptions) (o : OutcomeView) → IsCountOf e options o → (c : Completion) → options.completion ≡ c → o.raised ≤ options.max_raises
few_raises e options o h Plain is = omega (arith, h.unraised (λ add1. absurd (cc (is, add1))))
few_raises e options o h NoShares is = omega (arith, h.unraised (λ add1. absurd (cc (is, add1))))
few_raises e options o h Add1 is = (h.completed is).within_limit

-- a share of so few raises, however it is completed
share_rises : (c : Completion) (grain : Grain) (e : ElectionView) (step raises most : ℕ) → raises ≤ most → share_by c grain e step raises ≤ share_by c grain e step most
share_rises Plain grain e step raises most few = omega arith
share_rises Add1 grain e step raises most few = let more = mul-le-mul_right step few in omega (arith, more)
share_rises NoShares grain e step raises most few = omega arith

pub small_run_of : (e : ElectionView) (options : CountOptions) → is_too_fine e options ≡ false → (raises : ℕ) → raises ≤ options.max_raises
    → share_by options.completion options.grain e (step_of e options) raises ≤ largest_share
small_run_of e options fine raises few =
    let largest = (fine_in_words e options fine).0 in
    let rises = share_rises options.completion options.grain e (step_of e options) raises options.max_raises few in
    omega (arith, largest, rises)

pub small_share : (e : ElectionView) (options : CountOptions) (o : OutcomeView) → IsCountOf e options o → o.share ≤ largest_share
small_share e options o counted =
    let within = small_run_of e options counted.in_range.1 o.raised (few_raises e options o counted options.completion refl) in
    omega (arith, within, counted.share_is)

-- ---- the rests after one round more

rests_after_push : (s : SupportView) (rests : List ℕ) (elected : List ElectedView) (w : ElectedView)
    → rests_after s rests (elected ++ w ∷ []) ≡ charged (supporters_at s w.place) w.price (rests_after s rests elected)
rests_after_push s rests [] w = refl
rests_after_push s rests (v ∷ elected) w = rests_after_push s (charged (supporters_at s v.place) v.price rests) elected w

pub rests_more : (s : SupportView) (rests : List ℕ) (elected : List ElectedView) (i : ℕ) (w : ElectedView) → i < length elected → w ≡ get_or elected i w
    → rests_after s rests (take (i + 1) elected) ≡ charged (supporters_at s w.place) w.price (rests_after s rests (take i elected))
rests_more s rests elected i w below here =
    ap (rests_after s rests) (take_more elected i w below ∙ ap (λ v. take i elected ++ v ∷ []) (sym here))
    ∙ rests_after_push s rests (take i elected) w

-- ---- the ties of one round

pub here_is : (m : Measure) (s : SupportView) (share : ℕ) (elected : List ElectedView) (round : ℕ) (w : ElectedView) → round < length elected
    → w ≡ get_or elected round w → (rests : List ℕ) → rests ≡ rests_after s (replicate s.voters share) (take round elected)
    → map (λ place. record { round = Some (round + 1); winner = w.place; other = place })
    (filter (is_tied m s (take (round + 1) elected) rests w) (range_with_len 0 (length s.costs))) ≡ ties_in m s share elected round
here_is m s share elected round w below here rests is = rw (is, slice_get_read elected (length elected) round w refl below here) refl
