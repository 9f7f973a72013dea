-- Fairness to groups of voters who all want a project that is not elected.
use Rattle.std.specs.Prelude.{ℕ, Bool, List, ◌*◌, ◌≤◌, Any, filter, length, nat_le}
use Rattle.std.specs.Prelude.{replicate, slice_index, sum_by, zip, if◌then◌else◌}
use Rattle.pb_price.specs.Supporters.{SupportView, supporters_at, cost_in_parts}
use Rattle.pb_rounds.specs.Cheapest.{IsLeft}
use Rattle.pb_rounds.specs.Payments.{paid_in_turn}
use Rattle.pb_rounds.specs.Run.{ElectedView, weight_of}
use Rattle.pb_rounds.specs.declared.measure.Measure.{Measure}

-- For each project that is not elected, each group of its supporters, and each amount that would pay for it
-- if every member gave as much (its cost divided by their number, rounded up, or more), some member is such.
abbrev pub OfSomeMember : SupportView → List ElectedView → ((place amount voter : ℕ) → Type 0) → Type 0
OfSomeMember s elected IsSuch = (place amount : ℕ) (is_member : ℕ → Bool) → IsLeft s elected place
    → let group = filter is_member (supporters_at s place) in cost_in_parts s place ≤ length group * amount
    → Any (IsSuch place amount) group

-- What a voter pays at this share for those elected projects that each take at most this amount from the
-- voter; under measure cost, at most the amount times their cost over that of the project at this place.
abbrev pub paid_within : Measure → SupportView → (share : ℕ) → List ElectedView → (place amount voter : ℕ) → ℕ
paid_within m s share elected place amount voter = sum_by (λ row. let paid = slice_index row.1 voter in
    if nat_le (paid * weight_of m s place) (amount * weight_of m s row.0.place) then paid else 0)
    (zip elected (paid_in_turn s (replicate s.voters share) elected))
