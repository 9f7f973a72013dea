-- An order of projects, and back from it; voters by it.
use Rattle.std.specs.Prelude.{◌≡◌, ℕ, ◌<◌, List, length, slice_index}
use Rattle.pb_core.specs.Election.{VoterView}
use Rattle.pb_core.specs.Order.{ballot_in}

-- these are the positions at which an order has each place
pub record AreBack (order positions : List ℕ) : Type 0 where
  pub one_each : length positions ≡ length order
  pub back : (k : ℕ) → k < length order → slice_index positions (slice_index order k) ≡ k

-- a voter whose ballot is by positions in an order
abbrev pub voter_in : List ℕ → VoterView → VoterView
voter_in order v = record v { ballot = ballot_in order v.ballot }
