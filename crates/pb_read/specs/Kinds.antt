-- The numbers of the kinds of fault.
use Rattle.std.specs.Prelude.{ℕ}
use Rattle.pb_core.specs.Numbered.{numbered}
use Rattle.pb_read.specs.contracts.fault.ReadKind.{the_type}
use Rattle.pb_read.specs.declared.fault.ReadKind.{ReadKind}
use Rattle.pb_read.specs.declared.fault.TheConstants.{NAMES}

abbrev pub number_of : ReadKind → ℕ
number_of kind = (numbered the_type NAMES kind).0
