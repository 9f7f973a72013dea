-- When a region of a hash table has room; private contracts speak of it.
use Rattle.std.specs.Prelude.{ℕ, ◌+◌, ◌/◌, ◌%◌, ◌^◌, ◌<◌, ◌≤◌, Bool, nat_lt, List, slice_index}

-- a table of this many entries has 2 ^ bits groups: the fewest, from 2 ^ 5 to 2 ^ 17, that leave each group
-- at most nine entries
pub record IsTable (bits len : ℕ) : Type 0 where
  pub least : 5 ≤ bits
  pub most : bits ≤ 17
  pub holds : len / 9 < 2 ^ bits
  pub fewest : (fewer : ℕ) → 5 ≤ fewer → fewer < bits → 2 ^ fewer ≤ len / 9

-- the number of the region, 32 groups, in which a search starts in a table of 2 ^ bits groups; those of
-- smaller tables come before
abbrev pub region_of : ℕ → ℕ → ℕ
region_of start bits = 2 ^ bits / 32 + start % 2 ^ bits / 32

-- fewer than 352 searches start in this region
abbrev pub has_lane : List ℕ → ℕ → Bool
has_lane counts region = nat_lt (slice_index counts region) 352
