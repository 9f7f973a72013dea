use Rattle.pb_export.proofs.OfFile.{file_is, it_is_of_file, of_file}
use Rattle.pb_export.proofs.laws.files_are_so.Goals as goal

pub returns : goal.returns
returns c = record { stands = of_file; words = λ e. (file_is e, it_is_of_file e) }
