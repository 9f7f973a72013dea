-- What a round orders projects by.
use Rattle.std.specs.Prelude.{ℕ, Bool, Option, List, ◌*◌, max, not, find}
use Rattle.std.specs.List.{list_all}
use Rattle.std.specs.Ordering.{is_lt, nat_cmp, on, then_cmp}
use Rattle.std.specs.declared.cmp.Ordering.{Ordering}
use Rattle.pb_price.specs.Price.{PriceView}

-- what contracts see of a key: a project, by its place, the price that each of its supporters would pay at
-- most, and the weight that the price is divided by
pub record KeyView : Type 0 where
  pub price : PriceView
  pub weight : ℕ
  pub place : ℕ

-- what the amount of a price is divided by: by how many pay it together, and by the weight; each is at least 1
abbrev pub divisor : KeyView → ℕ
divisor k = max 1 k.price.payers * max 1 k.weight

-- by the price over the weight, then by the place; the weight and the payers come last, so that keys that
-- differ are told apart
abbrev pub key_cmp : KeyView → KeyView → Ordering
key_cmp = then_cmp (λ a b. nat_cmp (a.price.amount * divisor b) (b.price.amount * divisor a))
    (then_cmp (on (λ k. k.place) nat_cmp) (then_cmp (on (λ k. k.weight) nat_cmp) (on (λ k. k.price.payers) nat_cmp)))

-- the smaller price over weight comes first, and among equals the project that stands earlier
abbrev pub is_before : KeyView → KeyView → Bool
is_before a b = is_lt (key_cmp a b)

-- the first key that no other comes before
abbrev pub first_least : (KeyView → KeyView → Bool) → List KeyView → Option KeyView
first_least before keys = find (λ k. list_all (λ other. not (before other k)) keys) keys
