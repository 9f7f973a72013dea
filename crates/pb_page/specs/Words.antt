-- What a page says, in a language.
use Rattle.std.specs.Prelude.{ℕ, ◌/◌, ◌%◌, ◌&&◌, ◌==◌, List, [], if◌then◌else◌, nat_le, nat_lt}
use Rattle.std.specs.Prelude.{not, slice_get}
use Rattle.std.specs.Option.{option_map_or}
use Rattle.pb_page.specs.declared.markup.plural.Plural.{Plural}
use Rattle.pb_page.specs.declared.markup.plural.Plural.TheVariants.{Same, English, French, Polish}
use Rattle.pb_page.specs.declared.markup.words.Words.{Words}

-- which form of a noun goes with a number: 0 that of one, 1 that of few, 2 that of many; in Polish few ends in
-- 2, 3 or 4, but not in 12, 13 or 14
abbrev pub form_of : Plural → ℕ → ℕ
form_of Same n = 2
form_of English n = if n == 1 then 0 else 2
form_of French n = if nat_lt n 2 then 0 else 2
form_of Polish n = if n == 1 then 0 else
    (if nat_le 2 (n % 10) && (nat_le (n % 10) 4 && not (n % 100 / 10 == 1)) then 1 else 2)

-- the sentence with this key
unfoldable pub sentence : Words → ℕ → List ℕ
sentence w key = option_map_or (λ s. s.now) (slice_get w.sentences.now key) []
