-- The count: the opening share, the raises, and where they end.
use Rattle.std.specs.Prelude.{ℕ, Bool, true, false, Option, Some, List, ◌+◌, ◌-◌, ◌*◌, ◌/◌, ◌^◌, ◌&&◌, ◌||◌, ◌==◌, not, nat_lt}
use Rattle.std.specs.Prelude.{nat_le, find, length, option_map, sum_by, if◌then◌else◌}
use Rattle.std.specs.List.{list_any, range_with_len}
use Rattle.pb_core.specs.Election.{ElectionView}
use Rattle.pb_price.specs.Grain.{in_parts}
use Rattle.pb_price.specs.Supporters.{SupportView, support_in, supporters_at, cost_at}
use Rattle.pb_price.specs.declared.grain.Grain.{Grain}
use Rattle.pb_rounds.specs.Outcome.{Settled, settled_by}
use Rattle.pb_rounds.specs.Run.{ElectedView, is_elected, outcome_of}
use Rattle.pb_rounds.specs.declared.options.Completion.{Completion}
use Rattle.pb_rounds.specs.declared.options.Completion.TheVariants.{Add1, NoShares, Plain}
use Rattle.pb_rounds.specs.declared.options.CountOptions.{CountOptions}
use Rattle.pb_rounds.specs.declared.measure.Measure.{Measure}

-- what the elected cost together
abbrev pub spent_on : SupportView → List ElectedView → ℕ
spent_on s elected = sum_by (λ w. cost_at s w.place) elected

-- the elected cost more than the budget
unfoldable pub is_over : SupportView → ℕ → List ElectedView → Bool
is_over s budget elected = nat_lt budget (spent_on s elected)

-- the project is not elected, has a supporter, and costs no more than the elected leave of the budget
abbrev pub could_be_added : SupportView → ℕ → List ElectedView → ℕ → Bool
could_be_added s budget elected place =
    not (is_elected elected place) && nat_lt 0 (length (supporters_at s place))
    && nat_le (cost_at s place) (budget - spent_on s elected)

-- the elected are within the budget, and no project could be added
unfoldable pub is_exhausted : SupportView → ℕ → List ElectedView → Bool
is_exhausted s budget elected =
    not (is_over s budget elected)
    && not (list_any (could_be_added s budget elected) (range_with_len 0 (length s.costs)))

-- the voters share the budget, down to whole hundredths, or in fine money exactly
abbrev pub opening_share : Grain → ElectionView → ℕ
opening_share grain e =
    if length e.voters == 0 then 0 else in_parts grain (length e.voters) e.budget / length e.voters

-- the share after this many raises by a step, which is in the parts that are counted
abbrev pub share_after : Grain → ElectionView → ℕ → ℕ → ℕ
share_after grain e step raises = opening_share grain e + raises * step

-- nobody has a share
abbrev pub no_shares : Completion → Bool
no_shares NoShares = true
no_shares completion = false

-- the share by this completion: none at all, the opening share, or that raised by so many steps
abbrev pub share_by : Completion → Grain → ElectionView → ℕ → ℕ → ℕ
share_by NoShares grain e step raises = 0
share_by Plain grain e step raises = opening_share grain e
share_by Add1 grain e step raises = opening_share grain e + raises * step

module _ (m : Measure) (grain : Grain) (e : ElectionView) (step : ℕ) where
  abbrev pub elected_after : ℕ → List ElectedView
  elected_after raises = (outcome_of m grain e (share_after grain e step raises)).elected

  abbrev pub is_over_after : ℕ → Bool
  is_over_after raises = is_over (support_in grain e) e.budget (elected_after raises)

  abbrev pub is_exhausted_after : ℕ → Bool
  is_exhausted_after raises = is_exhausted (support_in grain e) e.budget (elected_after raises)

  -- an outcome that is over or exhausted decides
  abbrev pub is_decisive : ℕ → Bool
  is_decisive raises = is_over_after raises || is_exhausted_after raises

  -- the first number of raises, up to a limit, whose outcome decides
  unfoldable pub first_decisive : ℕ → Option ℕ
  first_decisive limit = find is_decisive (range_with_len 0 (limit + 1))

  -- completion by raises: the first outcome that is exhausted, or the last one before the first that is over
  abbrev pub add1_of : ℕ → Option ℕ
  add1_of limit =
      option_map (λ raises. if is_over_after raises then raises - 1 else raises)
      (first_decisive limit)

-- how many raises a completion decides on, if it does within the limit
abbrev pub raises_of : Completion → Measure → Grain → ElectionView → ℕ → ℕ → Option ℕ
raises_of Add1 m grain e step limit = add1_of m grain e step limit
raises_of completion m grain e step limit = Some 0

-- the outcome after this many raises
abbrev pub settled_after : Completion → Measure → Grain → ElectionView → ℕ → ℕ → Settled
settled_after completion m grain e step raises =
    let share = share_by completion grain e step raises in settled_by share raises (outcome_of m grain e share)

-- the step of these options, in the parts that are counted
abbrev pub step_of : ElectionView → CountOptions → ℕ
step_of e options = in_parts options.grain (length e.voters) options.step

-- a cost is too large to be counted so finely
abbrev pub has_too_fine_cost : Grain → ElectionView → Bool
has_too_fine_cost grain e = list_any (λ p. nat_le (2 ^ 64) (in_parts grain (length e.voters) p.cost)) e.projects

-- the largest share that there can be is, or a cost
abbrev pub is_too_fine : ElectionView → CountOptions → Bool
is_too_fine e options =
    nat_le (2 ^ 64) (share_by options.completion options.grain e (step_of e options) options.max_raises)
    || has_too_fine_cost options.grain e

-- the count: the outcome after as many raises as the completion decides on; none where it does not decide
-- within the limit
abbrev pub count_of : ElectionView → CountOptions → Option Settled
count_of e options =
    option_map (settled_after options.completion options.measure options.grain e (step_of e options))
    (raises_of options.completion options.measure options.grain e (step_of e options) options.max_raises)
