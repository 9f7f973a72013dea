-- How many threads a batch of prices and a group of raises get. Only clauses of private functions speak of
-- it.
use Rattle.std.specs.Prelude.{ℕ, ◌+◌, ◌*◌, ◌/◌, List, length, max, min, sum_by}
use Rattle.pb_price.specs.Supporters.{SupportView, supporters_at}

-- how many of the workers price these projects: one, and one more for each 100,000 approvals, as far as there
-- are workers
abbrev pub workers_for : ℕ → SupportView → List ℕ → ℕ
workers_for workers s places =
    min workers (1 + sum_by (λ place. length (supporters_at s place)) places / 100000)

-- how many raises a group tries, each in a thread of its own: twice as many as the last group, and at least
-- 2, but at most one for each worker and for each processor, and none past those that are left
abbrev pub group_size : ℕ → ℕ → ℕ → ℕ → ℕ
group_size last workers processors left = min (max 2 (2 * last)) (min (min workers processors) left)
