use Rattle.std.proofs.Common.{OnOk, subst, sym}
use Rattle.std.specs.Io.KnownBytes.{Appends}
use Rattle.pb_script.specs.declared.roll.RollFault.{RollFault}
use Rattle.pb_faults.specs.Fault.{line, told}
use Rattle.pb_faults.specs.declared.fault.AppFault.TheVariants.{Roll}
use Rattle.pb_faults.proofs.fault_line.write_roll.Goals as goal

pub returns-in-TooManyIds : goal.returns-in-TooManyIds
returns-in-TooManyIds g c =
    let P : RollFault → Type 0 = λ fault. OnOk c.write_named-in-TooManyIds.result (Appends (g.W.Write.contents c.args.writer.now) (g.W.Write.contents c.write_named-in-TooManyIds.new.writer) (line (told (Roll fault)).1)) in
    subst P (sym c.in-TooManyIds.is) (rw c.from-in-TooManyIds.ensures at c.write_named-in-TooManyIds.ensures)
