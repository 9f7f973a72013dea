-- What is found of the losers with most votes.
use Rattle.std.specs.Prelude.{◌≡◌, ℕ, All, List, filter, length, map, not, slice_index, take}
use Rattle.std.specs.List.{range_with_len}
use Rattle.std.specs.List.Sorted.{IsPermutation, IsSorted}
use Rattle.std.specs.Ordering.{flip_args, nat_cmp, on, then_cmp}
use Rattle.pb_core.specs.Election.{ElectionView}
use Rattle.pb_price.specs.Supporters.{cost_at, support_of}
use Rattle.pb_rounds.specs.MostVotes.{votes_at}
use Rattle.pb_rounds.specs.declared.rule.Rule.{Rule}
use Rattle.pb_reasons.specs.Counted.{is_selected}
use Rattle.pb_reasons.specs.CountedElection.{CountedElectionView, IsCountIn}
use Rattle.pb_reasons.specs.WhatIf.{IsWhatIf}
use Rattle.pb_reasons.specs.declared.changes.loser.Loser.{Loser}

-- what is found of the first so many losers of a count by the rule: all that it does not select, those with most
-- votes first, equal ones in the order of the file
pub record AreFound (e : ElectionView) (rule : Rule) (first : ℕ) (found : List Loser) : Type 0 where
  pub losers : (x : CountedElectionView) × (places : List ℕ) × IsCountIn rule e x × IsPermutation (map (slice_index x.order)
      (filter (λ position. not (is_selected x.counted position)) (range_with_len 0 (length x.election.projects)))) places
      × IsSorted (then_cmp (flip_args (on (votes_at (support_of e)) nat_cmp)) nat_cmp) places
      × (map (λ l. l.place) found ≡ take first places)
  pub each : All (λ l. IsWhatIf e (record { rule = rule; place = l.place })
      (cost_at (support_of e) l.place) l.found) found
