-- What one voter pays, round by round; private contracts speak of it.
use Rattle.std.specs.Prelude.{◌≡◌, ℕ, ◌-◌, ◌<◌, Bool, List, [], ◌∷◌, All, length, min, nat_lt, slice_index}
use Rattle.std.specs.Prelude.{slice_index_or, true, if◌then◌else◌}
use Rattle.std.specs.List.Sorted.{IsStrictlyIncreasing}
use Rattle.pb_core.specs.Inner.Approved.{approves}
use Rattle.pb_rounds.specs.Inner.Listed.{is_listed}
use Rattle.pb_rounds.specs.Run.{ElectedView}
use Rattle.pb_reasons.specs.Reasons.{round_of}

-- what a voter pays in a round, out of what is left: who approves the project the price, or all that is left
-- if that is less
abbrev pub due_of : Bool → ℕ → ℕ → ℕ
due_of is_approved rest price = if is_approved then min rest price else 0

-- what a voter of this ballot pays for each of the elected in turn, out of what is left
unfoldable pub paid_alone : List ℕ → ℕ → List ElectedView → List ℕ
paid_alone ballot rest [] = []
paid_alone ballot rest (w ∷ elected) =
    due_of (approves ballot w.place) rest w.price
    ∷ paid_alone ballot (rest - due_of (approves ballot w.place) rest w.price) elected

-- the rounds that elected what this ballot approves, rising
pub record AreDue (elected : List ElectedView) (ballot due : List ℕ) : Type 0 where
  pub rise : IsStrictlyIncreasing due
  pub known : All (λ round. round < length elected) due
  pub each : (round : ℕ) (d : ElectedView) → round < length elected
      → is_listed due round ≡ approves ballot (slice_index_or elected round d).place

-- what a voter of this ballot paid in these rounds
abbrev pub ArePaid : List ElectedView → List ℕ → ℕ → List ℕ → List ℕ → Type 0
ArePaid elected ballot share due amounts =
    All (λ round. slice_index amounts round ≡ slice_index (paid_alone ballot share elected) round) due

-- the amounts of the rounds in which a voter of this ballot pays
abbrev pub HasPaid : List ElectedView → List ℕ → ℕ → List ℕ → Type 0
HasPaid elected ballot share amounts =
    (place : ℕ) → approves ballot place ≡ true → round_of elected place < length elected
    → slice_index amounts (round_of elected place)
    ≡ slice_index (paid_alone ballot share elected) (round_of elected place)

-- what a list of amounts says was paid for the project at this place: that of its round, where there is one
abbrev pub amount_at : List ℕ → List ℕ → ℕ → ℕ
amount_at rounds amounts place =
    if nat_lt (slice_index rounds place) (length amounts) then slice_index amounts (slice_index rounds place) else 0
