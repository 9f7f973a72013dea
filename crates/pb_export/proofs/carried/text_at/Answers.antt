use Rattle.std.proofs.Common.{◌∙◌, ap, subst, sym}
use Rattle.std.specs.Str.{IsUtf8, trim}
use Rattle.pb_export.proofs.carried.text_at.Goals as goal

pub returns-in-Ok : goal.returns-in-Ok
returns-in-Ok c = λ is. c.trim.ensures.trim ∙ ap trim (c.in-Ok.ensures.cases.0 ∙ c.bytes_at.ensures)

pub returns-in-Err : goal.returns-in-Err
returns-in-Err c = λ is. absurd (c.in-Err.ensures.cases.0 (subst IsUtf8 (sym c.bytes_at.ensures) is))
