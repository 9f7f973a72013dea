use Rattle.std.proofs.Common.{◌∙◌, ◌+◌, Bool, ap, arith, if◌then◌else◌, sym}
use Rattle.csv.specs.Records.{fields_of}
use Rattle.pb_script.proofs.Rolls.{HaveIds-start, rows_more}
use Rattle.pb_script.proofs.roll.read_ids.Goals as goal
use Rattle.pb_script.proofs.roll.read_ids.Goals.{then-branch, else-branch}

pub rows-init : goal.rows-init
rows-init g c = (omega arith, omega arith, HaveIds-start c.args.records.now.left c.args.roll.now c.requires)

pub rows-preserved : goal.rows-preserved
rows-preserved g c =
    let next = rw c.in-Ok-true.field-0-test at c.in-Ok-true.ensures.next in
    let few = c.in-Ok-true.ensures.few c.in-Ok-true.field-0-test in
    let more = rows_more c.args.records.now.left c.rows.records.left c.next_row.new.records.left c.rows.rows c.rows.ids c.if-branch.ids c.rows.roll c.put_id.new.roll (fields_of c.next_row.new.row)
    c.in_ok-put_id.field-0 c.rows.invariant next c.in-Ok-true.ensures.text few c.in_ok-put_id.ensures.ok in
    let chosen = λ (b : Bool). if b then c.rows.ids + 1 else c.rows.ids in
    elim c.if-branch.branch [
      | then-branch w ↦ more (w.ids-is ∙ ap chosen (sym w.if-branch.true))
      | else-branch w ↦ more (w.ids-is ∙ ap chosen (sym w.if-branch.false))
    ]
