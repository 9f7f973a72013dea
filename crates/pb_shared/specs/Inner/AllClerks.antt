-- All clerks of a desk.
use Rattle.std.specs.Prelude.{ℕ, ◌<◌, Contains, List, map}
use Rattle.pb_shared.specs.Clerk.{ClerkView, SharedView}

-- all clerks of the desk are among these
abbrev pub AreAll : SharedView → List ClerkView → Type 0
AreAll d clerks = (number : ℕ) → number < d.clerks → Contains (map (λ c. c.sheet.number) clerks) number
