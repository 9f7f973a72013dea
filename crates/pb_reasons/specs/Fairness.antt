-- How fair a count is to all supporters of each project that lost.
use Rattle.std.specs.Prelude.{ℕ, ◌&&◌, List, filter, fold, length, max, nat_lt, not}
use Rattle.std.specs.Int.{div_ceil}
use Rattle.std.specs.List.{range_with_len}
use Rattle.pb_core.specs.Election.{ElectionView}
use Rattle.pb_price.specs.Supporters.{SupportView, cost_in_parts, support_of, supporters_at}
use Rattle.pb_rounds.specs.Fairness.{paid_within}
use Rattle.pb_rounds.specs.MostVotes.{is_taken, votes_at}
use Rattle.pb_rounds.specs.Outcome.{OutcomeView}
use Rattle.pb_rounds.specs.declared.measure.Measure.{Measure}
use Rattle.pb_reasons.specs.Counted.{CountedView, winners_of}

-- the projects with supporters that are neither elected nor added, in their order
abbrev pub losers : ElectionView → CountedView → List ℕ
losers e c = filter (λ place. nat_lt 0 (votes_at (support_of e) place) && not (is_taken (winners_of c) place))
    (range_with_len 0 (length e.projects))

-- what the project at this place would have cost each of its supporters, rounded up
abbrev pub needed : SupportView → ℕ → ℕ
needed s place = div_ceil (cost_in_parts s place) (votes_at s place)

-- the most that one of them paid for elected projects that each took at most that from it, as `paid_within`
-- understands it
abbrev pub spent : Measure → SupportView → OutcomeView → ℕ → ℕ
spent m s o place = fold
    (λ most voter. max most (paid_within m s o.share o.elected place (needed s place) voter)) 0
    (supporters_at s place)
