-- A page that grows.
use Rattle.std.specs.Prelude.{◌≡◌, ◌++◌, ℕ, List, flat_map}
use Rattle.pb_page.specs.Content.{Part}

-- the bytes of a part; and these parts were put after a page
abbrev pub bytes : Part → List ℕ
bytes part = part

unfoldable pub Grows : List ℕ → List ℕ → List Part → Type 0
Grows before after parts = after ≡ before ++ flat_map bytes parts
