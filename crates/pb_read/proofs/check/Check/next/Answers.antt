use Rattle.std.proofs.Common.{refl}
use Rattle.pb_read.proofs.Blaming.{next_shown, no_value_next, of_no_memory, of_no_text, of_read_failed}
use Rattle.pb_read.proofs.Checks.{no_text_judged, text_judged}
use Rattle.pb_read.proofs.Showing.{text_shown}
use Rattle.pb_read.specs.Inner.Progresses.{place_of}
use Rattle.pb_read.specs.declared.fault.ReadKind.TheVariants as kinds
use Rattle.pb_read.proofs.check.Check.next.Goals.{in-NoMemory, in-ReadFailed}
use Rattle.pb_read.proofs.check.Check.next.Goals as goal

pub returns-in-Ok-Text-clause-judged : goal.returns-in-Ok-Text-clause-judged
returns-in-Ok-Text-clause-judged g c =
    let found = rw c.in-Ok-Text.field-0-is at c.in-Ok-Text.ensures.found in
    text_judged c.args.kept c.args.records.now.left c.read_any.new.records.left (place_of c.args.self.now.progress) (place_of c.judge.new.self.progress) c.read_any.new.self c.judge.result found c.judge.ensures.judged

pub returns-in-Ok-NoText-clause-judged : goal.returns-in-Ok-NoText-clause-judged
returns-in-Ok-NoText-clause-judged g c =
    let found = rw c.in-Ok-NoText.field-0-is at c.in-Ok-NoText.ensures.found in
    let at = place_of c.args.self.now.progress in
    no_text_judged c.args.kept c.args.records.now.left c.read_any.new.records.left at at c.refused_by.result found refl c.refused_by.ensures

pub returns-in-Ok-Text-clause-shown : goal.returns-in-Ok-Text-clause-shown
returns-in-Ok-Text-clause-shown g c =
    let found = rw c.in-Ok-Text.field-0-is at c.in-Ok-Text.ensures.found in
    text_shown c.args.records.now.left c.read_any.new.records.left c.args.at c.args.kept (place_of c.args.self.now.progress) (place_of c.judge.new.self.progress) _ _ c.read_any.new.self c.judge.result found c.judge.ensures.judged c.judge.ensures.shown

pub returns-in-Ok-NoText-clause-shown : goal.returns-in-Ok-NoText-clause-shown
returns-in-Ok-NoText-clause-shown g c =
    let at = place_of c.args.self.now.progress in
    let left = c.args.records.now.left in
    next_shown left c.read_any.new.records.left c.args.at at at _ _ c.args.self.now.progress.stage kinds.NotText c.refused_by.result c.refused_by.ensures (no_value_next left c.args.at at kinds.NotText _ _ c.of-refusal.result of_no_text c.of-refusal.ensures c.refuse.ensures.shown)

pub returns-after-stopped-clause-shown : goal.returns-after-stopped-clause-shown
returns-after-stopped-clause-shown g c =
    let at = place_of c.args.self.now.progress in
    let left = c.args.records.now.left in
    no_value_next left c.args.at at c.match-stopped.kind _ _ c.of-refusal-in-Err.result (elim c.match-stopped.branch [
      | in-NoMemory w ↦ rw w.kind-is of_no_memory
      | in-ReadFailed w ↦ rw w.kind-is of_read_failed
    ]) c.of-refusal-in-Err.ensures c.refuse-in-Err.ensures.shown
