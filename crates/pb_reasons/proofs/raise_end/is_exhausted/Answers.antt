use Rattle.std.proofs.Common.{◌≡◌, ◌&&◌, ◌-◌, ◌<◌, All, Bool, List, ℕ, get_or, length, map, subst, sym, ◌∙◌, ap, arith}
use Rattle.std.specs.List.{list_any, range_with_len}
use Rattle.pb_core.specs.Election.{ElectionView, IsVoter, ProjectView, VoterView}
use Rattle.pb_price.specs.Supporters.{support_of}
use Rattle.pb_rounds.specs.Count.{spent_on}
use Rattle.pb_rounds.specs.Outcome.{OutcomeView}
use Rattle.pb_rounds.specs.Run.{ElectedView}
use Rattle.pb_reasons.proofs.Rooms.{room_tells}
use Rattle.pb_reasons.proofs.Tellable.{count_can_be_told}
use Rattle.pb_reasons.specs.Inner.Raises.{leave_room_for}
use Rattle.pb_reasons.proofs.raise_end.is_exhausted.Goals.{then-leave_room_for_any_project, else-leave_room_for_any_project}
use Rattle.pb_reasons.proofs.raise_end.is_exhausted.Goals as goal

pub spent_for-requires-clause-known : goal.spent_for-requires-clause-known
spent_for-requires-clause-known c =
    let told = count_can_be_told c.args.election.now c.requires.0 c.args.outcome.now c.budget-budget.ensures.is_election c.requires.1 in
    let elected = c.as_slice-elected.ensures.value ∙ ap (λ (v : OutcomeView). v.elected) c.outcome.view_is in
    rw elected told.known

pub returns : goal.returns
returns c =
    let e = c.args.election.now in
    let o = c.args.outcome.now in
    let elected = c.as_slice-elected.ensures.value ∙ ap (λ (v : OutcomeView). v.elected) c.outcome.view_is in
    let places : List ElectedView → List ℕ = map (λ w. w.place) in
    let winners = c.in_ok-winners.winners in
    let rest = c.budget.inside.0 - c.spent_for.result in
    let winners_are : winners ≡ (e, places o.elected) =
    c.in_ok-winners.ensures ∙ ap (λ (l : List ℕ). (e, l)) (c.as_slice.ensures.value ∙ c.in_ok-places.ensures ∙ ap places elected) in
    let rest_is : rest ≡ e.budget - spent_on (support_of e) o.elected =
    omega (arith, c.budget.view_is, c.budget-budget.ensures.budget, c.spent_for.ensures, ap (spent_on (support_of e)) elected) in
    let projects = length c.projects.result.now in
    let all = ap (λ (l : List ProjectView). length l) c.projects.ensures.projects in
    let tells = room_tells e o c.budget-budget.ensures.is_election c.requires.1.within_budget winners rest projects winners_are rest_is all c.if-leave_room_for_any_project.has_room in
    let by_ballots : List VoterView → Bool = list_any (λ (v : VoterView). list_any (leave_room_for winners rest) v.ballot) in
    let by_costs = list_any (leave_room_for winners rest) (range_with_len 0 projects) in
    let found : c.leave_room_for_any_project.result ≡ by_costs = c.leave_room_for_any_project.ensures in
    elim c.if-leave_room_for_any_project.branch [
      | then-leave_room_for_any_project w ↦
          tells
          (w.has_room-is ∙ w.leave_room_for_any_voter-has_room.ensures ∙ ap by_ballots w.voters.ensures.voters
          ∙ sym (ap (λ b. b && by_ballots e.voters) (sym found ∙ w.if-leave_room_for_any_project.true)))
      | else-leave_room_for_any_project w ↦
          tells
          (w.has_room-is ∙ w.if-leave_room_for_any_project.false
          ∙ sym (ap (λ b. b && by_ballots e.voters) (sym found ∙ w.if-leave_room_for_any_project.false)))
    ]

pub leave_room_for_any_voter-has_room-requires : goal.leave_room_for_any_voter-has_room-requires
leave_room_for_any_voter-has_room-requires c =
    let e = c.args.election.now in
    let are_voters = subst (λ (vs : List VoterView). All (IsVoter (length e.projects)) vs) (sym c.voters.ensures.voters) c.voters.ensures.is_election.are_voters in
    λ k d below. subst (λ (n : ℕ). All (λ place. place < n) (get_or c.voters.result.now k d).ballot) (sym (ap (λ (p : ElectionView × List ℕ). length p.0.projects) c.in_ok-winners.ensures))
    (are_voters k d below).ballot_known
