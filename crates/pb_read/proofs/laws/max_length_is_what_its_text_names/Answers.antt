use Rattle.pb_read.proofs.LengthNamed.{bad_named, limit_named, none_named}
use Rattle.pb_read.proofs.laws.max_length_is_what_its_text_names.Goals as goal

pub returns : goal.returns
returns c = record { limit = limit_named; none = none_named; bad = bad_named }
