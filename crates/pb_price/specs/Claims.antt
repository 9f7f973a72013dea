-- The claims on the pieces of a batch, as plain data: one word, the next number, and in the view of each
-- claim the numbers that were drawn with it.
use Rattle.std.specs.Prelude.{◌≡◌, ℕ, ◌+◌, ◌<◌, ◌≤◌, ◌^◌, [], length, sum_by, count_by, nat_le, slice_index}
use Rattle.std.specs.List.{range_with_len}
use mathlib.Core.Option.{some}
use lib.ListN.{get_elem?}
use Rattle.atomic_table.specs.Table.{State}
use Rattle.pb_price.specs.declared.claims.drawn.Drawn.{Drawn}

-- The state of the claims between any two steps. The numbers in all views together are those below the word,
-- each once: whatever weight each number has, both weigh the same. At most as many of a view's numbers are no
-- piece as worker seats went into it, and one without a seat has no numbers.
pub record AreClaims {S : Type 0} (pieces workers : ℕ) (s : State S Drawn) : Type 0 where
  pub one_word : length s.words ≡ 1
  pub each_once : (weight : ℕ → ℕ) → sum_by (λ v. sum_by weight v.numbers) s.views
      ≡ sum_by weight (range_with_len 0 (slice_index s.words 0))
  pub each_view : (id : ℕ) (v : Drawn) → get_elem? s.views id ≡ some v
      → (count_by (λ number. nat_le pieces number) v.numbers ≤ v.seats) × (v.seats ≡ 0 → v.numbers ≡ [])
  pub all_seats : sum_by (λ v. v.seats) s.views ≡ workers
  pub small : pieces + workers < 2 ^ 63
