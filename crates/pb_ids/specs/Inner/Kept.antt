-- How ids are found; private contracts speak of it.
use Rattle.std.specs.Prelude.{ℕ, ◌+◌, ◌*◌, ◌^◌, ◌≤◌, Bool, ◌&&◌, nat_eq, nat_le, nat_lt, List, [], ◌∷◌}
use Rattle.std.specs.Prelude.{length, reverse, Option, if◌then◌else◌}
use Rattle.std.specs.List.{list_all}
use Rattle.std.specs.BTreeMap as tree
use Rattle.std.specs.Option.{option_or}
use Rattle.indexmap.specs.IndexMap.{get, get_by_text, index_map_len}
use Rattle.pb_ids.specs.declared.kept_ids.KeptIds.{KeptIds}

-- bytes, the lowest first, as digits from 1 to 255 of a number in base 256
abbrev pub digits : List ℕ → ℕ
digits [] = 0
digits (b ∷ bytes) = 256 * digits bytes + b + 1

-- the number of a text of at most eight bytes, none of them 255
abbrev pub code_of : List ℕ → ℕ
code_of text = digits (reverse text)

abbrev pub has_code : List ℕ → Bool
has_code text = nat_le (length text) 8 && list_all (λ b. nat_lt b 255) text

-- a hash table gets this many ids at most
abbrev pub most_hashed : ℕ
most_hashed = 9 * 2 ^ 17

-- neither hash table has more ids
abbrev pub IsFew : {Y : Type 0} → KeptIds Y → Type 0
IsFew ids = (index_map_len ids.short ≤ most_hashed) × (index_map_len ids.long ≤ most_hashed)

-- the place of a text that is kept by hash: by its number, or by its bytes where it has none
abbrev pub hashed : {Y : Type 0} → KeptIds Y → List ℕ → Option ℕ
hashed ids text = if has_code text then get nat_eq ids.short (code_of text) else get_by_text ids.long text

-- the place of a text that is kept in order or by hash
abbrev pub found : {Y : Type 0} → KeptIds Y → List ℕ → Option ℕ
found ids text = option_or (tree.get_by_text ids.crowded text) (hashed ids text)
