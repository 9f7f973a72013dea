-- Most votes first: the rule that cities had before, and that fills up what is left of a budget.
use Rattle.std.specs.Prelude.{◌≡◌, ◌≢◌, ℕ, zero, suc, ◌-◌, ◌==◌, ◌&&◌, Bool, true, false, not, nat_le, nat_lt}
use Rattle.std.specs.Prelude.{List, [], ◌∷◌, ◌++◌, Option, filter, find, length, sum_by}
use Rattle.std.specs.List.{list_all, list_any, range_with_len}
use Rattle.std.specs.Option.{option_map_or}
use Rattle.std.specs.Ordering.{flip_args, is_lt, nat_cmp, on, then_cmp}
use Rattle.std.specs.declared.cmp.Ordering.{Ordering}
use Rattle.pb_price.specs.Supporters.{SupportView, cost_at, supporters_at}

-- how many ballots approve the project at this place
abbrev pub votes_at : SupportView → ℕ → ℕ
votes_at s place = length (supporters_at s place)

abbrev pub is_taken : (taken : List ℕ) → ℕ → Bool
is_taken taken place = list_any (λ t. t == place) taken

-- a project fits where it has a supporter, is not taken, and costs at most what is left
abbrev pub fits : SupportView → (taken : List ℕ) → (left place : ℕ) → Bool
fits s taken left place =
    nat_lt 0 (votes_at s place) && (not (is_taken taken place) && nat_le (cost_at s place) left)

-- by votes, the most first, then by cost, then by place
abbrev pub votes_cmp : SupportView → ℕ → ℕ → Ordering
votes_cmp s = then_cmp (flip_args (on (votes_at s) nat_cmp)) (then_cmp (on (cost_at s) nat_cmp) nat_cmp)

abbrev pub comes_first : SupportView → (place other : ℕ) → Bool
comes_first s place other = is_lt (votes_cmp s place other)

-- the project at this place fits, and comes before each other one that fits
pub record FitsFirst (s : SupportView) (taken : List ℕ) (left place : ℕ) : Type 0 where
  pub does_fit : fits s taken left place ≡ true
  pub first : (other : ℕ) → fits s taken left other ≡ true → other ≢ place → comes_first s place other ≡ true

-- Most votes first adds these, in this order: each was, of the projects that fitted what those before it left,
-- the first, and in the end no project fits.
pub record IsMostVotesFirst (s : SupportView) (taken : List ℕ) (left : ℕ) (added : List ℕ) : Type 0 where
  pub first : (before : List ℕ) (place : ℕ) (later : List ℕ) → added ≡ before ++ place ∷ later
      → FitsFirst s (taken ++ before) (left - sum_by (cost_at s) before) place
  pub none_fits : (place : ℕ) → fits s (taken ++ added) (left - sum_by (cost_at s) added) place ≡ false

-- the first of the projects that fit: the one that none of them comes before
abbrev pub first_fitting : SupportView → (taken : List ℕ) → (left : ℕ) → Option ℕ
first_fitting s taken left =
    let fitting = filter (fits s taken left) (range_with_len 0 (length s.costs)) in
    find (λ place. list_all (λ other. not (comes_first s other place)) fitting) fitting

-- in this many rounds at most: while a project fits, the first of those that fit is added
unfoldable pub added_in : SupportView → ℕ → (taken : List ℕ) → (left : ℕ) → List ℕ
added_in s zero taken left = []
added_in s (suc rounds) taken left =
    option_map_or (λ place. place ∷ added_in s rounds (taken ++ place ∷ []) (left - cost_at s place))
    (first_fitting s taken left)
    []

-- what most votes first adds to what is taken; each round leaves at least a hundredth less
abbrev pub most_votes_first : SupportView → (taken : List ℕ) → (left : ℕ) → List ℕ
most_votes_first s taken left = added_in s left taken left
