-- A draw of pieces of work, and how claims are split and joined.
use Rattle.std.specs.Prelude.{◌≡◌, ℕ, ◌+◌, ◌-◌, ◌≤◌, List, [], ◌∷◌, ◌++◌, sum_by, count_by, nat_le}
use Rattle.std.specs.List.{range_with_len}
use Rattle.atomic_table.specs.Table.{Me, Step}
use Rattle.pb_price.specs.declared.claims.drawn.Drawn.{Drawn}

abbrev pub drawn : ℕ → List ℕ → Drawn
drawn seats numbers = record { seats = seats; numbers = numbers }

-- how many of the numbers are no piece
abbrev pub past_end : ℕ → List ℕ → ℕ
past_end pieces numbers = count_by (λ number. nat_le pieces number) numbers

-- the numbers are those below next, each once: whatever weight each number has, both weigh the same
abbrev pub AreBelowOnce : List ℕ → ℕ → Type 0
AreBelowOnce numbers next = (weight : ℕ → ℕ) → sum_by weight numbers ≡ sum_by weight (range_with_len 0 next)

-- a draw: the number found goes after the others, and the view has no number twice and none above the one
-- found
abbrev pub draws : {S : Type 0} → Step S → Me S Drawn → ℕ → Me S Drawn → Type 0
draws st me found after =
    (after ≡ (drawn me.0.seats (me.0.numbers ++ found ∷ []), me.1))
    × ((weight : ℕ → ℕ) → sum_by weight after.0.numbers ≤ sum_by weight (range_with_len 0 (found + 1)))

-- splitting off a worker's seat: what stays, and the seat
abbrev pub rest_of_seats : Drawn → Drawn
rest_of_seats v = drawn (v.seats - 1) v.numbers

abbrev pub one_seat : Drawn → Drawn
one_seat v = drawn 1 []

-- joining: both claims' seats and numbers, and what the joined one is left with
abbrev pub joined : Drawn → Drawn → Drawn
joined v w = drawn (v.seats + w.seats) (v.numbers ++ w.numbers)

abbrev pub spent : Drawn
spent = drawn 0 []

-- a claim after those of some workers were joined to it, the last one first
abbrev pub all_joined : {W : Type 0} → (W → Drawn) → Drawn → List W → Drawn
all_joined claim stock [] = stock
all_joined claim stock (w ∷ workers) = joined (all_joined claim stock workers) (claim w)

-- at most as many of a view's numbers are no piece as worker seats went into it, and one without a seat has
-- no numbers
abbrev pub IsView : ℕ → Drawn → Type 0
IsView pieces v =
    (count_by (λ number. nat_le pieces number) v.numbers ≤ v.seats) × (v.seats ≡ 0 → v.numbers ≡ [])
