use Rattle.pb_commands.proofs.ExactWords.{fraction_told, whole_told}
use Rattle.pb_commands.proofs.laws.exact_amounts_are_their_words.Goals as goal

pub returns : goal.returns
returns c = record { whole = whole_told; fraction = λ amount divisor p q part some same least. fraction_told amount divisor p q part some same least }
