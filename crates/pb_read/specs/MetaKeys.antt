-- The keys of META that the desk or the count uses.
use Rattle.std.specs.Prelude.{ℕ, List, [], ◌∷◌, Option, find}
use Rattle.pb_core.specs.Numbered.{numbered}
use Rattle.pb_read.specs.Rows.{is_word}
use Rattle.pb_read.specs.contracts.meta_key.MetaKey.{the_type}
use Rattle.pb_read.specs.declared.meta_key.MetaKey.{MetaKey}
use Rattle.pb_read.specs.declared.meta_key.MetaKey.TheVariants.{Budget, VoteType, MaxLength}
use Rattle.pb_read.specs.declared.meta_key.TheConstants.{NAMES}

-- a key as a file writes it, by the table of its names
abbrev pub key_text : MetaKey → List ℕ
key_text key = (numbered the_type NAMES key).1

-- the key that a field names
abbrev pub key_of : List ℕ → Option MetaKey
key_of field = find (λ key. is_word (key_text key) field) (Budget ∷ VoteType ∷ MaxLength ∷ [])
