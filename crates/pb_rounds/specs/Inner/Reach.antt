-- Which raises decide nothing: what whole shares could pay for leaves room for a project that they could not.
use Rattle.std.specs.Prelude.{◌≡◌, ℕ, Bool, false, ◌+◌, ◌*◌, ◌<◌, ◌≤◌, length, nat_le, sum_by, if◌then◌else◌}
use Rattle.std.specs.List.{range_with_len}
use Rattle.pb_price.specs.Supporters.{SupportView, supporters_at, cost_at, cost_in_parts}

-- the supporters cover the project's cost where each gives the whole share
abbrev pub is_within_reach : SupportView → ℕ → ℕ → Bool
is_within_reach s share place = nat_le (cost_in_parts s place) (length (supporters_at s place) * share)

-- what the projects within reach of a share cost together
abbrev pub cost_within_reach : SupportView → ℕ → ℕ
cost_within_reach s share =
    sum_by (λ place. if is_within_reach s share place then cost_at s place else 0)
    (range_with_len 0 (length s.costs))

-- the projects within reach of this share leave of the budget what some other project with supporters costs
pub record LeavesRoom (s : SupportView) (budget share : ℕ) : Type 0 where
  pub place : ℕ
  pub known : place < length s.costs
  pub supported : 0 < length (supporters_at s place)
  pub beyond : is_within_reach s share place ≡ false
  pub room : cost_within_reach s share + cost_at s place ≤ budget
