use Rattle.std.proofs.Common.{refl}
use Rattle.pb_commands.proofs.EndingWords.{added_told, lost_told, won_told}
use Rattle.pb_commands.proofs.laws.endings_are_their_words.Goals as goal

pub returns : goal.returns
returns c = record { votes = λ grain e c place. refl; won = won_told; added = λ grain e c before place later none split others. added_told grain e c before place later none split others; lost = lost_told }
