-- Most votes first as a rule of its own.
use Rattle.std.proofs.Common.{◌≡◌, ◌-◌, ◌++◌, ℕ, List, [], map, subst, ◌∙◌, ap, arith}
use Rattle.std.specs.Prelude.{if◌then◌else◌}
use Rattle.pb_price.specs.Supporters.{support_in, support_of}
use Rattle.pb_rounds.proofs.NoShares.{no_share_elects_none}
use Rattle.pb_rounds.specs.Cheapest.{IsRun}
use Rattle.pb_rounds.specs.Count.{share_by, spent_on, step_of}
use Rattle.pb_rounds.specs.MostVotes.{most_votes_first}
use Rattle.pb_rounds.specs.RuleNames.{fills_up}
use Rattle.pb_rounds.specs.Run.{ElectedView}
use Rattle.pb_rounds.specs.declared.options.Completion.TheVariants.{NoShares}
use Rattle.pb_rounds.specs.declared.rule.FillUp.{FillUp}
use Rattle.pb_rounds.specs.declared.rule.FillUp.TheVariants.{MostVotes}
use Rattle.pb_reasons.specs.BesideVotes.{elected_by_votes}
use Rattle.pb_reasons.specs.Counted.{winners_of}
use Rattle.pb_reasons.specs.CountedElection.{CountedElectionView, IsCountedElection}

module _ (c : CountedElectionView) (h : IsCountedElection c) (none : c.rule.options.completion ≡ NoShares) where
  pub nobody_by_shares : c.counted.outcome.elected ≡ []
  nobody_by_shares =
      let options = c.rule.options in
      let o = c.counted.outcome in
      let share : o.share ≡ 0 = h.is_count.share_is ∙ ap (λ k. share_by k options.grain c.election (step_of c.election options) o.raised) none in
      no_share_elects_none options.measure (support_in options.grain c.election) o.elected o.rests
      (subst (λ (n : ℕ). IsRun options.measure (support_in options.grain c.election) n o.elected o.rests) share h.is_count.run_is)

  pub winners_by_votes : c.rule.fill_up ≡ MostVotes → winners_of c.counted ≡ elected_by_votes c.election
  winners_by_votes filled =
      let s = support_of c.election in
      let budget = c.election.budget in
      let whole : budget - 0 ≡ budget = omega arith in
      let won : FillUp → List ElectedView → List ℕ = λ f elected. let places = map (λ (w : ElectedView). w.place) elected in
      places ++ (if fills_up f then most_votes_first s places (budget - spent_on s elected) else []) in
      ap winners_of h.is_filled_up ∙ ap (λ f. won f c.counted.outcome.elected) filled ∙ ap (won MostVotes) nobody_by_shares
      ∙ ap (most_votes_first s []) whole
