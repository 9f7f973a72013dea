-- The sums of the outcome of a count are amounts of 64 bits, and what is rounded of them is little.
use Rattle.std.proofs.Common.{◌≡◌, ℕ, suc, ◌+◌, ◌-◌, ◌<◌, ◌≤◌, List, [], ◌∷◌, length, Some, arith}
use Rattle.std.specs.Prelude.{All, sum_by, ◌^◌}
use Rattle.std.specs.List.{AllZip}
use Rattle.std.proofs.lemmas.List.FromFn.{get_or-map-range_with_len, length-range_with_len}
use Rattle.std.proofs.lemmas.List.Sums.{count_by-le-length, length-filter, sum_by-cons, sum_by-le}
use Rattle.std.proofs.Math.Nat.{mul-le-mul}
use Rattle.pb_core.specs.Election.{ElectionView, IsElection}
use Rattle.pb_price.specs.Grain.{in_parts}
use Rattle.pb_price.specs.Supporters.{SupportView, cost_at, support_in, support_of, supporters_at, supporters_of}
use Rattle.pb_price.specs.declared.grain.Grain.{Grain}
use Rattle.pb_price.specs.declared.grain.Grain.TheVariants.{Hundredths, Fine}
use Rattle.pb_rounds.specs.Count.{count_of, spent_on}
use Rattle.pb_rounds.specs.Outcome.{OutcomeView, settled}
use Rattle.pb_rounds.specs.Inner.PriceSystem.{HasPriceSystem}
use Rattle.pb_rounds.specs.PriceSystem.{IsCollected, PaysFor}
use Rattle.pb_rounds.specs.Run.{ElectedView}
use Rattle.pb_rounds.specs.declared.options.CountOptions.{CountOptions}
use Rattle.pb_rounds.proofs.Completing.{parts_small, parts_times}
use Rattle.pb_reasons.specs.Inner.OfOutcome.{collected_for, outcome_totals}
use Rattle.pb_reasons.proofs.ElectedPlaces.{count_elects_projects}

-- a known project has at most as many supporters as there are voters
pub few_supporters : (e : ElectionView) (place : ℕ) → place < length e.projects → length (supporters_at (support_of e) place) ≤ length e.voters
unfolding supporters_of
few_supporters e place known =
    let at = get_or-map-range_with_len (supporters_of e) 0 (length e.projects) place place [] known (omega arith) in
    rw at (omega (arith, length-filter {X = ℕ}, count_by-le-length {X = ℕ}, length-range_with_len 0 (length e.voters)))

-- what several collect together is what they cost, but for what is rounded
abbrev pub AreCollected : Grain → (cost slack collected : ℕ) → Type 0
AreCollected Hundredths cost slack collected = (cost ≤ collected) × (collected ≤ cost + slack)
AreCollected Fine cost slack collected = (collected ≤ cost) × (cost ≤ collected + slack)

none_collected : (grain : Grain) (voters : ℕ) → AreCollected grain (in_parts grain voters 0) 0 0
none_collected Hundredths voters = (omega arith, omega arith)
none_collected Fine voters = (omega arith, omega arith)

one_more : (grain : Grain) (voters cost supporters collected spent slack all most : ℕ) → supporters ≤ most
    → IsCollected grain (in_parts grain voters cost) supporters collected → AreCollected grain (in_parts grain voters spent) slack all
    → AreCollected grain (in_parts grain voters (cost + spent)) (most + slack) (collected + all)
one_more Hundredths voters cost supporters collected spent slack all most few one later =
    (omega (arith, few, one.0, later.0), omega (arith, few, one.1, later.1))
one_more Fine voters cost supporters collected spent slack all most few one later =
    (omega (arith, few, one.0, later.0), omega (arith, few, one.1, later.1))

pub all_collected : (s : SupportView) (rests : List ℕ) (projects most : ℕ) → ((place : ℕ) → place < projects → length (supporters_at s place) ≤ most)
    → (elected : List ElectedView) (payments : List (List ℕ)) → All (λ w. w.place < projects) elected → AllZip (PaysFor s rests) elected payments
    → AreCollected s.grain (in_parts s.grain s.voters (spent_on s elected)) (sum_by (λ (w : ElectedView). most) elected) (collected_for elected)
all_collected s rests projects most few [] payments known paid = none_collected s.grain s.voters
all_collected s rests projects most few (w ∷ elected) [] known paid = absurd paid
all_collected s rests projects most few (w ∷ elected) (row ∷ payments) known paid =
    let later = all_collected s rests projects most few elected payments (λ k d below. known (suc k) d (omega arith)) paid.1 in
    rw (sum_by-cons (λ (v : ElectedView). cost_at s v.place) w elected, sum_by-cons (λ (v : ElectedView). most) w elected, sum_by-cons (λ (v : ElectedView). v.collected) w elected)
    (one_more s.grain s.voters (cost_at s w.place) (length (supporters_at s w.place)) w.collected (spent_on s elected) (sum_by (λ (v : ElectedView). most) elected)
    (collected_for elected) most (few w.place (known 0 w (omega arith))) (paid.0).covered later)

little_rounded : (grain : Grain) (cost slack all : ℕ) → AreCollected grain cost slack all → (all ≤ cost + slack) × (all - cost + (cost - all) ≤ slack)
little_rounded Hundredths cost slack all h = (omega (arith, h.1), omega (arith, h.0, h.1))
little_rounded Fine cost slack all h = (omega (arith, h.0), omega (arith, h.0, h.1))

-- what the elected of a count cost together, what was paid for them, and what is rounded of that
pub sums_are_amounts : (e : ElectionView) (options : CountOptions) (o : OutcomeView) → IsElection e
    → count_of e options ≡ Some (settled o) → spent_on (support_of e) o.elected ≤ e.budget → HasPriceSystem (support_in options.grain e) o.share o.elected o.rests
    → (spent_on (support_of e) o.elected < 2 ^ 64) × (collected_for o.elected < 2 ^ 128) × ((outcome_totals options.grain e o.elected).surplus < 2 ^ 64)
sums_are_amounts e options o is_election counted within prices =
    let grain = options.grain in
    let places = count_elects_projects e options (settled o) counted in
    let all = all_collected (support_in grain e) o.rests (length e.projects) (length e.voters) (few_supporters e) o.elected prices.0 places.known prices.1.paid in
    let slack = sum_by-le (λ (w : ElectedView). length e.voters) (length e.voters) o.elected (λ k d below. omega arith) in
    let product = mul-le-mul places.few is_election.few_voters in
    let spent : spent_on (support_of e) o.elected ≤ 1000000000000000 = omega (arith, within, is_election.budget_bounded) in
    let cost = mul-le-mul (parts_small grain (length e.voters) is_election.few_voters) spent in
    let parts = parts_times grain (length e.voters) (spent_on (support_of e) o.elected) in
    let few = is_election.few_projects in
    let rounded = little_rounded grain (in_parts grain (length e.voters) (spent_on (support_of e) o.elected)) (sum_by (λ (w : ElectedView). length e.voters) o.elected) (collected_for o.elected) all in (
      omega (arith, spent),
      omega (arith, rounded.0, slack, product, cost, parts, few),
      omega (arith, rounded.1, slack, product, few),
    )
