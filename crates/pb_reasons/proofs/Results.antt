-- What a count comes to, as those who tell it take it.
use Rattle.std.proofs.Common.{◌≡◌, ℕ, ◌+◌, ◌-◌, ◌<◌, ◌≤◌, Option, Some, None, List, [], length, map, refl, sym, ◌∙◌, ap, subst, inl, inr, arith}
use Rattle.std.specs.Prelude.{All, slice_get, slice_index, sum_by}
use Rattle.std.proofs.lemmas.Bool.{cases_lt}
use Rattle.std.proofs.lemmas.List.{get_or_past}
use Rattle.std.proofs.lemmas.List.Elements.{All-append, All-map, All-nil, All-weaker}
use Rattle.std.proofs.lemmas.List.FromFn.{length-map-range_with_len}
use Rattle.pb_core.specs.Election.{ElectionView, IsElection}
use Rattle.pb_rounds.proofs.Added.{added_are_paid, added_have_votes, election_is_filled}
use Rattle.pb_rounds.specs.MostVotes.{votes_at}
use Rattle.pb_price.specs.Supporters.{cost_at, support_of, supporters_at, supporters_of}
use Rattle.pb_price.specs.declared.grain.Grain.{Grain}
use Rattle.pb_rounds.specs.Count.{spent_on}
use Rattle.pb_rounds.specs.Outcome.{OutcomeView}
use Rattle.pb_rounds.specs.declared.rule.Rule.{Rule}
use Rattle.pb_rounds.specs.Run.{ElectedView}
use Rattle.pb_rounds.specs.declared.rule.FillUp.{FillUp}
use Rattle.pb_rounds.specs.declared.rule.FillUp.TheVariants.{Nothing, MostVotes}
use Rattle.pb_reasons.specs.Counted.{CountedView, IsCountBy, counted, winners_of}
use Rattle.pb_reasons.specs.Inner.Counts.{IsCounted}
use Rattle.pb_reasons.specs.CountedElection.{CountedElectionView, IsCountedElection}
use Rattle.pb_reasons.specs.Reasons.{ending_of, project_reason, round_of}
use Rattle.pb_reasons.specs.Inner.Numbers.{AreNumbers}
use Rattle.pb_reasons.specs.Inner.OfOutcome.{ending_as, ending_with, outcome_ending, outcome_reason}
use Rattle.pb_reasons.specs.declared.project_reason.Ending.{Ending}
use Rattle.pb_reasons.specs.declared.project_reason.Ending.TheVariants.{Won, Added, Lost}
use Rattle.pb_reasons.specs.declared.project_reason.ProjectReason.{ProjectReason}
use Rattle.pb_reasons.proofs.Numbering.{added_has_number}
use Rattle.pb_reasons.proofs.Tellable.{counted_can_be_told}

-- what a count comes to is a result
pub result_of : (rule : Rule) (e : ElectionView) (c : CountedView) → IsCountBy rule e c → IsCounted e c
result_of rule e c count =
    let P : CountedView → Type 0 = IsCounted e in
    subst P (sym count.2) (rule.options, count.1, refl)

pub counted_is_result : (c : CountedElectionView) → IsCountedElection c → IsCounted c.election c.counted
counted_is_result c is = result_of c.rule c.election c.counted (c.counted.outcome, is.is_count, is.is_filled_up)

voted_is_known : (e : ElectionView) (place : ℕ) → 0 < votes_at (support_of e) place → place < length e.projects
voted_is_known e place voted = elim (cases_lt place (length e.projects)) [
  | inl less ↦ less
  | inr more ↦
      let lists = length-map-range_with_len (supporters_of e) 0 (length e.projects) in
      let none : supporters_at (support_of e) place ≡ [] = get_or_past _ place [] (rw lists more) in
      let count : votes_at (support_of e) place ≡ 0 = ap length none in
      absurd (omega (arith, voted, count))
]

-- what is added are projects of the election, paid from what the elected leave
pub record AreAdded (e : ElectionView) (o : OutcomeView) (added : List ℕ) : Type 0 where
  pub known : All (λ place. place < length e.projects) added
  pub paid : spent_on (support_of e) o.elected + sum_by (cost_at (support_of e)) added ≤ e.budget

are_added : (e : ElectionView) (o : OutcomeView) (fill_up : FillUp) → IsElection e → spent_on (support_of e) o.elected ≤ e.budget
    → AreAdded e o (counted e fill_up o).added
are_added e o MostVotes h within =
    let taken = map (λ w. w.place) o.elected in
    let left = e.budget - spent_on (support_of e) o.elected in
    let filled = election_is_filled e taken left h in
    let paid = added_are_paid (support_of e) taken left _ filled in
    record {
      known = All-weaker (λ place. 0 < votes_at (support_of e) place) (λ place. place < length e.projects) (voted_is_known e) _
          (added_have_votes (support_of e) taken left _ filled);
      paid = omega (arith, within, paid);
    }
are_added e o Nothing h within = record { known = All-nil (λ place. place < length e.projects); paid = omega (arith, within) }

pub result_is_added : (e : ElectionView) (c : CountedView) → IsElection e → IsCounted e c → AreAdded e c.outcome c.added
result_is_added e c h result =
    subst (AreAdded e c.outcome) (sym (ap (λ (v : CountedView). v.added) result.2)) (are_added e c.outcome c.fill_up h result.1.within_budget)

-- the winners are projects of the election
pub winners_known : (c : CountedElectionView) → IsCountedElection c → All (λ place. place < length c.election.projects) (winners_of c.counted)
winners_known c is =
    All-append (λ place. place < length c.election.projects) (map (λ (w : ElectedView). w.place) c.counted.outcome.elected) c.counted.added
    (All-map (λ place. place < length c.election.projects) (λ (w : ElectedView). w.place) c.counted.outcome.elected (counted_can_be_told c is).known)
    (result_is_added c.election c.counted is.is_election (counted_is_result c is)).known

-- the reasons of the outcome, and with them what is added
pub ending_filled : (grain : Grain) (e : ElectionView) (c : CountedView) (place : ℕ) (w : Option ElectedView)
    → ending_with c.added place (outcome_ending grain e c.outcome place w) ≡ ending_of grain e c place w
ending_filled grain e c place (Some w) = refl
ending_filled grain e c place None = refl

-- an ending told by a project's number
pub ending_numbered : (added numbers : List ℕ) (projects place : ℕ) (ending : Ending) → AreNumbers projects added numbers → place < projects
    → ending_as ending (slice_index numbers place) (length added) ≡ ending_with added place ending
ending_numbered added numbers projects place (Won w) are known = refl
ending_numbered added numbers projects place (Added a) are known = refl
ending_numbered added numbers projects place (Lost l) are known = rw (are.numbered place known, added_has_number added place) refl

-- what is told of a project, from what is told of it in the outcome and from its number
pub project_filled : (grain : Grain) (e : ElectionView) (c : CountedView) (numbers : List ℕ) (place : ℕ) → AreNumbers (length e.projects) c.added numbers
    → place < length e.projects → (reason : ProjectReason) → reason ≡ outcome_reason grain e c.outcome place
    → (number added : ℕ) → number ≡ slice_index numbers place → added ≡ length c.added
    → (ending : Ending) → ending ≡ ending_as reason.ending number added
    → record { votes = reason.votes; ending = ending } ≡ project_reason grain e c place
project_filled grain e c numbers place are known reason reason_is number added number_is added_is ending ending_is =
    let winner = slice_get c.outcome.elected (round_of c.outcome.elected place) in
    let end : ending ≡ ending_of grain e c place winner =
    ending_is
    ∙ ap (λ n. ending_as reason.ending n added) number_is
    ∙ ap (ending_as reason.ending (slice_index numbers place)) added_is
    ∙ ending_numbered c.added numbers (length e.projects) place reason.ending are known
    ∙ ap (λ (r : ProjectReason). ending_with c.added place r.ending) reason_is
    ∙ ending_filled grain e c place winner in
    ap (λ (r : ProjectReason). record { votes = r.votes; ending = ending }) reason_is
    ∙ ap (λ (last : Ending). record { votes = length (supporters_at (support_of e) place); ending = last }) end
