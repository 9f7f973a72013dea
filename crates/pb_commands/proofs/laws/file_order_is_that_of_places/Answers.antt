use Rattle.pb_commands.proofs.FilePlaces.{in_file_known, in_file_places}
use Rattle.pb_commands.proofs.laws.file_order_is_that_of_places.Goals as goal

pub returns : goal.returns
returns c = λ x is. (in_file_known x is, in_file_places x is)
