-- The winners: the elected and the added together.
use Rattle.std.proofs.Common.{◌≡◌, ◌≢◌, ℕ, zero, suc, ◌+◌, ◌-◌, List, [], ◌∷◌, ◌++◌, false, length, map, refl, sym, ◌∙◌, ap, subst, arith, ◌||◌}
use Rattle.std.specs.Prelude.{◌==◌, All, AllPairs, sum_by}
use Rattle.std.proofs.lemmas.Bool.{eqb-false, or_parts}
use Rattle.std.proofs.lemmas.List.Elements.{All-append, All-map, All-weaker}
use Rattle.std.proofs.lemmas.List.Folds.{list_any-append}
use Rattle.std.proofs.lemmas.List.Kept.{AllPairs-cons}
use Rattle.std.proofs.lemmas.List.Sums.{sum_by-append, sum_by-cons}
use Rattle.pb_core.specs.Election.{ElectionView, IsElection}
use Rattle.pb_rounds.proofs.Added.{added_differ, added_were_not_taken, election_is_filled}
use Rattle.pb_rounds.proofs.Filled.{rule_from_filled}
use Rattle.pb_rounds.specs.MostVotes.{IsMostVotesFirst, fits, is_taken}
use Rattle.pb_rounds.specs.Inner.LeftAfter.{left_after}
use Rattle.pb_price.specs.Grain.{in_parts}
use Rattle.pb_price.specs.Supporters.{SupportView, cost_at, support_in, support_of}
use Rattle.pb_price.specs.declared.grain.Grain.{Grain}
use Rattle.pb_price.specs.declared.grain.Grain.TheVariants.{Fine, Hundredths}
use Rattle.pb_rounds.specs.Count.{spent_on}
use Rattle.pb_rounds.specs.Outcome.{OutcomeView}
use Rattle.pb_rounds.specs.Run.{ElectedView, is_elected}
use Rattle.pb_rounds.specs.declared.rule.FillUp.{FillUp}
use Rattle.pb_rounds.specs.declared.rule.FillUp.TheVariants.{Nothing, MostVotes}
use Rattle.pb_reasons.specs.Counted.{CountedView, counted, is_selected, winners_of}
use Rattle.pb_reasons.specs.CountedElection.{CountedElectionView, IsCountedElection}
use Rattle.pb_reasons.specs.Inner.Counts.{IsCounted, added_to}
use Rattle.pb_reasons.specs.Totals.{totals_of}
use Rattle.pb_reasons.specs.Inner.OfOutcome.{collected_for}
use Rattle.pb_reasons.specs.Inner.Told.{AreApart}
use Rattle.pb_reasons.proofs.Printables.{AreCollected, all_collected, few_supporters}
use Rattle.pb_reasons.proofs.Tellable.{count_can_be_told}

pub elected_are_taken : (elected : List ElectedView) (place : ℕ) → is_elected elected place ≡ is_taken (map (λ w. w.place) elected) place
elected_are_taken [] place = refl
elected_are_taken (w ∷ elected) place = ap (λ b. (w.place == place) || b) (elected_are_taken elected place)

pub selected_are_winners : (c : CountedView) (place : ℕ) → is_selected c place ≡ is_taken (winners_of c) place
selected_are_winners c place =
    ap (λ b. b || is_taken c.added place) (elected_are_taken c.outcome.elected place)
    ∙ sym (list_any-append (λ t. t == place) (map (λ w. w.place) c.outcome.elected) c.added)

-- what the winners cost
places_cost : (s : SupportView) (elected : List ElectedView) → sum_by (cost_at s) (map (λ w. w.place) elected) ≡ spent_on s elected
places_cost s [] = refl
places_cost s (w ∷ elected) =
    sum_by-cons (cost_at s) w.place (map (λ v. v.place) elected) ∙ ap (λ n. cost_at s w.place + n) (places_cost s elected)
    ∙ sym (sum_by-cons (λ (v : ElectedView). cost_at s v.place) w elected)

pub winners_cost : (grain : Grain) (e : ElectionView) (c : CountedView) → (totals_of grain e c).spent ≡ sum_by (cost_at (support_of e)) (winners_of c)
winners_cost grain e c =
    let s = support_of e in
    let parts = sum_by-append (cost_at s) (map (λ (w : ElectedView). w.place) c.outcome.elected) c.added in
    omega (arith, parts, places_cost s c.outcome.elected)

-- what was paid for the elected is what they cost, but for what is rounded up, or in fine money down
pub paid_beyond : (c : CountedElectionView) → IsCountedElection c → let grain = c.rule.options.grain in let elected = c.counted.outcome.elected in
    let cost = in_parts grain (length c.election.voters) (sum_by (λ (w : ElectedView). cost_at (support_of c.election) w.place) elected) in
    let paid = sum_by (λ (w : ElectedView). w.collected) elected in let surplus = (totals_of grain c.election c.counted).surplus in
    (grain ≡ Hundredths → surplus + cost ≡ paid) × (grain ≡ Fine → surplus + paid ≡ cost)
paid_beyond c is =
    let grain = c.rule.options.grain in
    let o = c.counted.outcome in
    let cost = in_parts grain (length c.election.voters) (spent_on (support_of c.election) o.elected) in
    let slack = sum_by (λ (w : ElectedView). length c.election.voters) o.elected in
    let paid = collected_for o.elected in
    let prices = is.is_count.price_system in
    let known = (count_can_be_told c.election c.rule.options o is.is_election is.is_count).known in
    let are : AreCollected grain cost slack paid =
    all_collected (support_in grain c.election) o.rests (length c.election.projects) (length c.election.voters) (few_supporters c.election) o.elected prices.0 known prices.1.paid in (
      λ whole. let h = subst (λ (g : Grain). AreCollected g cost slack paid) whole are in omega (arith, h.0),
      λ fine. let h = subst (λ (g : Grain). AreCollected g cost slack paid) fine are in omega (arith, h.0),
    )

-- nobody is elected twice, or added twice, or both
differ : (elected : List ElectedView) (added : List ℕ) → AllPairs AreApart elected → AllPairs (λ place other. place ≢ other) added
    → All (λ place. is_taken (map (λ w. w.place) elected) place ≡ false) added
    → AllPairs (λ place other. place ≢ other) (map (λ w. w.place) elected ++ added)
differ [] added apart once free = once
differ (w ∷ elected) added apart once free =
    let later : ElectedView → ℕ = λ v. v.place in
    let parts : (place : ℕ) → is_taken (w.place ∷ map later elected) place ≡ false → (w.place ≢ place) × (is_taken (map later elected) place ≡ false) =
    λ place none. let both = or_parts (w.place == place) (is_taken (map later elected) place) none in (eqb-false w.place place both.0, both.1) in
    AllPairs-cons (λ place other. place ≢ other) w.place (map later elected ++ added)
    (All-append (λ place. w.place ≢ place) (map later elected) added
    (All-map (λ place. w.place ≢ place) later elected (λ k d below. apart zero (suc k) d (omega arith) (omega arith)))
    (All-weaker (λ place. is_taken (w.place ∷ map later elected) place ≡ false) (λ place. w.place ≢ place) (λ place none. (parts place none).0) added free))
    (differ elected added (λ i j d before below. apart (suc i) (suc j) d (omega arith) (omega arith)) once
    (All-weaker (λ place. is_taken (w.place ∷ map later elected) place ≡ false) (λ place. is_taken (map later elected) place ≡ false) (λ place none. (parts place none).1) added free))

module _ (e : ElectionView) (h : IsElection e) where
  filled_differ : (o : OutcomeView) (fill_up : FillUp) → AllPairs AreApart o.elected
      → AllPairs (λ place other. place ≢ other) (map (λ w. w.place) o.elected ++ (counted e fill_up o).added)
  filled_differ o MostVotes apart =
      let taken = map (λ (w : ElectedView). w.place) o.elected in
      let left = e.budget - spent_on (support_of e) o.elected in
      let filled = election_is_filled e taken left h in
      differ o.elected _ apart (added_differ (support_of e) taken left _ filled) (added_were_not_taken (support_of e) taken left _ filled)
  filled_differ o Nothing apart = differ o.elected [] apart (λ i j d before below. absurd (omega (arith, below))) (λ k d below. absurd (omega (arith, below)))

  pub winners_differ : (c : CountedView) → IsCounted e c → AllPairs (λ place other. place ≢ other) (winners_of c)
  winners_differ c result =
      let told = count_can_be_told e result.0 c.outcome h result.1 in
      let added : c.added ≡ (counted e c.fill_up c.outcome).added = ap (λ (v : CountedView). v.added) result.2 in
      subst (λ (l : List ℕ). AllPairs (λ place other. place ≢ other) (map (λ w. w.place) c.outcome.elected ++ l)) (sym added)
      (filled_differ c.outcome c.fill_up told.apart)

  pub none_fits_at_the_end : (grain : Grain) (c : CountedView) (place : ℕ) → IsCounted e c → c.fill_up ≡ MostVotes
      → fits (support_of e) (winners_of c) (e.budget - (totals_of grain e c).spent) place ≡ false
  none_fits_at_the_end grain c place result fills =
      let s = support_of e in
      let taken = map (λ (w : ElectedView). w.place) c.outcome.elected in
      let left = e.budget - spent_on s c.outcome.elected in
      let rule : IsMostVotesFirst s taken left (added_to e MostVotes c.outcome) = rule_from_filled s taken left _ (election_is_filled e taken left h) in
      let added : c.added ≡ added_to e MostVotes c.outcome = ap (λ (v : CountedView). v.added) result.2 ∙ ap (λ b. (counted e b c.outcome).added) fills in
      let rest : e.budget - (spent_on s c.outcome.elected + sum_by (cost_at s) c.added) ≡ left_after s left c.added = omega arith in
      rw rest (subst (λ (l : List ℕ). fits s (taken ++ l) (left_after s left l) place ≡ false) (sym added) (rule.none_fits place))
