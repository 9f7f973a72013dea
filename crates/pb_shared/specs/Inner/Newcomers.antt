-- Clerks who have made no call.
use Rattle.std.specs.Prelude.{◌≡◌, ℕ, ◌<◌, List, length, slice_get, Some}
use Rattle.pb_shared.specs.Clerk.{ClerkView, SharedView, new_sheet}

-- the clerks of a shared desk, by their numbers: each has seen its journal, and made no call
abbrev pub AreNewcomers : SharedView → List ClerkView → Type 0
AreNewcomers d clerks = (length clerks ≡ d.clerks)
    × ((i : ℕ) → i < d.clerks → slice_get clerks i ≡ Some (record { desk = d; sheet = new_sheet d.start.journal i }))
