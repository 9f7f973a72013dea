use Rattle.std.proofs.Common.{sym, subst, OnOk}
use Rattle.std.specs.Io.KnownBytes.{Appends}
use Rattle.pb_faults.specs.Fault.{line, told}
use Rattle.pb_faults.specs.declared.fault.AppFault.TheVariants.{Script}
use Rattle.pb_script.specs.ScriptReading.{fault_of_row}
use Rattle.pb_script.specs.declared.admission.RowRefusal.{RowRefusal}
use Rattle.pb_faults.proofs.fault_line.write_refused_row.Goals as goal

pub returns-in-Bad : goal.returns-in-Bad
returns-in-Bad g c =
    subst (λ (why : RowRefusal). OnOk c.write_at.result (Appends (g.W.Write.contents c.args.writer.now) (g.W.Write.contents c.write_at.new.writer) (line (told (Script (fault_of_row why c.args.row))).1))) (sym c.in-Bad.is) c.write_at.ensures

pub returns-in-UnknownId : goal.returns-in-UnknownId
returns-in-UnknownId g c =
    subst (λ (why : RowRefusal). OnOk c.write_at-in-UnknownId.result (Appends (g.W.Write.contents c.args.writer.now) (g.W.Write.contents c.write_at-in-UnknownId.new.writer) (line (told (Script (fault_of_row why c.args.row))).1))) (sym c.in-UnknownId.is) c.write_at-in-UnknownId.ensures

pub returns-in-NotOnRoll : goal.returns-in-NotOnRoll
returns-in-NotOnRoll g c =
    subst (λ (why : RowRefusal). OnOk c.write_at-in-NotOnRoll.result (Appends (g.W.Write.contents c.args.writer.now) (g.W.Write.contents c.write_at-in-NotOnRoll.new.writer) (line (told (Script (fault_of_row why c.args.row))).1))) (sym c.in-NotOnRoll.is) c.write_at-in-NotOnRoll.ensures

pub returns-in-TooFew : goal.returns-in-TooFew
returns-in-TooFew g c =
    subst (λ (why : RowRefusal). OnOk c.write_at-in-TooFew.result (Appends (g.W.Write.contents c.args.writer.now) (g.W.Write.contents c.write_at-in-TooFew.new.writer) (line (told (Script (fault_of_row why c.args.row))).1))) (sym c.in-TooFew.is) c.write_at-in-TooFew.ensures

pub returns-in-FromFile : goal.returns-in-FromFile
returns-in-FromFile g c =
    subst (λ (why : RowRefusal). OnOk c.write_at-in-FromFile.result (Appends (g.W.Write.contents c.args.writer.now) (g.W.Write.contents c.write_at-in-FromFile.new.writer) (line (told (Script (fault_of_row why c.args.row))).1))) (sym c.in-FromFile.is) c.write_at-in-FromFile.ensures

pub returns-in-NoShut : goal.returns-in-NoShut
returns-in-NoShut g c =
    subst (λ (why : RowRefusal). OnOk c.write_at-in-NoShut.result (Appends (g.W.Write.contents c.args.writer.now) (g.W.Write.contents c.write_at-in-NoShut.new.writer) (line (told (Script (fault_of_row why c.args.row))).1))) (sym c.in-NoShut.is) c.write_at-in-NoShut.ensures
