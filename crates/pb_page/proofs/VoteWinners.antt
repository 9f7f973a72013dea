-- Whom most votes first elects are projects of the election, and the budget pays for them.
use Rattle.std.proofs.Common.{◌≡◌, ℕ, ◌<◌, [], length, ap, inl, inr, arith}
use Rattle.std.specs.Prelude.{◌^◌, All, sum_by}
use Rattle.std.proofs.lemmas.Bool.{cases_lt}
use Rattle.std.proofs.lemmas.List.{get_or_past}
use Rattle.std.proofs.lemmas.List.Elements.{All-weaker}
use Rattle.std.proofs.lemmas.List.FromFn.{length-map-range_with_len}
use Rattle.pb_core.specs.Election.{ElectionView, IsElection}
use Rattle.pb_price.specs.Supporters.{cost_at, support_of, supporters_at, supporters_of}
use Rattle.pb_reasons.specs.BesideVotes.{elected_by_votes}
use Rattle.pb_rounds.proofs.Added.{added_are_paid, added_have_votes, election_is_filled}
use Rattle.pb_rounds.specs.MostVotes.{votes_at}

voted_is_known : (e : ElectionView) (place : ℕ) → 0 < votes_at (support_of e) place → place < length e.projects
voted_is_known e place voted = elim (cases_lt place (length e.projects)) [
  | inl less ↦ less
  | inr more ↦
      let lists = length-map-range_with_len (supporters_of e) 0 (length e.projects) in
      let none : supporters_at (support_of e) place ≡ [] = get_or_past _ place [] (rw lists more) in
      let count : votes_at (support_of e) place ≡ 0 = ap length none in
      absurd (omega (arith, voted, count))
]

pub votes_are_known : (e : ElectionView) → IsElection e → All (λ place. place < length e.projects) (elected_by_votes e)
votes_are_known e h =
    All-weaker (λ place. 0 < votes_at (support_of e) place) (λ place. place < length e.projects) (voted_is_known e) _
    (added_have_votes (support_of e) [] e.budget _ (election_is_filled e [] e.budget h))

pub votes_are_paid : (e : ElectionView) → IsElection e → sum_by (cost_at (support_of e)) (elected_by_votes e) < 2 ^ 64
votes_are_paid e h =
    let paid = added_are_paid (support_of e) [] e.budget _ (election_is_filled e [] e.budget h) in
    omega (arith, paid, h.budget_bounded)
