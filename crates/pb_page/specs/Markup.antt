-- A text from outside, as it stands in a page.
use Rattle.std.specs.Prelude.{ℕ, Bool, ◌||◌, ◌==◌, List, [], ◌∷◌, ◌++◌}
use Rattle.std.specs.Prelude.{codes, decimal, flat_map, if◌then◌else◌, nat_lt}

-- `<`, `>` and the quotes: by these a browser tells tags and their attributes from text
abbrev pub is_delimiter : ℕ → Bool
is_delimiter c = (c == 60) || ((c == 62) || ((c == 34) || (c == 39)))

-- how a character stands in a page: `&`, delimiters and control characters by their numbers, as `&#60;`
abbrev pub character : ℕ → List ℕ
character c = if (c == 38) || (is_delimiter c || (nat_lt c 32 || (c == 127)))
    then codes "&#" ++ (decimal c ++ codes ";") else c ∷ []

-- how a text stands in a page
abbrev pub written : List ℕ → List ℕ
written text = flat_map character text
