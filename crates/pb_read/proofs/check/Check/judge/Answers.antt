use Rattle.pb_read.proofs.Blaming.{no_value_shown, of_too_many}
use Rattle.pb_read.proofs.Blames.{explained_blames, refusal_blames}
use Rattle.pb_read.specs.Inner.Forms.{next_row}
use Rattle.pb_read.specs.Inner.Progresses.{place_of}
use Rattle.pb_read.specs.declared.fault.ReadKind.TheVariants as kinds
use Rattle.pb_read.proofs.check.Check.judge.Goals as goal

pub returns-in-Err-clause-blame : goal.returns-in-Err-clause-blame
returns-in-Err-clause-blame g c =
    refusal_blames _ c.in-Err.kind c.refused_by.result (explained_blames (place_of c.args.self.now.progress) (next_row c.args.self.now.row) c.in-Err.kind c.in-Err.ensures.err) c.refused_by.ensures

pub returns-then-kept-eq-MOST_RECORDS-clause-shown : goal.returns-then-kept-eq-MOST_RECORDS-clause-shown
returns-then-kept-eq-MOST_RECORDS-clause-shown g c =
    no_value_shown c.args.self.now.row c.args.at (place_of c.args.self.now.progress) kinds.TooManyRecords _ _ c.of-refusal.result of_too_many c.of-refusal.ensures c.refuse.ensures.shown
