-- The forms of nouns.
use Rattle.std.specs.Prelude.{ℕ, ◌+◌, ◌/◌, ◌%◌, Bool, ◌&&◌, ◌==◌, List, nat_le, not}
use Rattle.pb_page.specs.Words.{form_of, sentence}
use Rattle.pb_page.specs.declared.markup.words.Words.{Words}

-- whether a number ends in 2, 3 or 4, but not in 12, 13 or 14
abbrev pub ends_in_few : ℕ → Bool
ends_in_few n = nat_le 2 (n % 10) && (nat_le (n % 10) 4 && not (n % 100 / 10 == 1))

abbrev pub noun : Words → ℕ → ℕ → List ℕ
noun w key n = sentence w (key + form_of w.plural n)
