-- What the rows of META say.
use Rattle.std.specs.Prelude.{ℕ, List, Option, None, Ok, option_map, codes, find, reverse}
use Rattle.std.specs.Option.{option_map_or}
use Rattle.pb_core.specs.Money.{money_of}
use Rattle.pb_rows.specs.Reading.{Fields}
use Rattle.pb_read.specs.Lengths.{max_length_of}
use Rattle.pb_read.specs.MetaKeys.{key_text}
use Rattle.pb_read.specs.Rows.{field, is_word}
use Rattle.pb_read.specs.declared.meta.Meta.{Meta}
use Rattle.pb_read.specs.declared.meta_key.MetaKey.TheVariants.{Budget, VoteType, MaxLength}

-- the value of a key: the second field of the last row whose first field is the key
abbrev pub value_of : List ℕ → List Fields → Option (List ℕ)
value_of key rows = option_map (λ row. field row 1) (find (λ row. is_word key (field row 0)) (reverse rows))

-- `budget` as money, whether `vote_type` is `approval`, and the limit of `max_length`
abbrev pub meta_of : List Fields → Meta
meta_of rows = record {
  budget = option_map money_of (value_of (key_text Budget) rows);
  approval = option_map (is_word (codes "approval")) (value_of (key_text VoteType) rows);
  max_length = option_map_or max_length_of (value_of (key_text MaxLength) rows) (Ok None);
}
