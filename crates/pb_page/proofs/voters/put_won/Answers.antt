use Rattle.std.proofs.Common.{sym}
use Rattle.std.proofs.lemmas.Bool.{true≢false}
use Rattle.std.specs.Prelude.{IsErr, OnOk, Result, Ok, Err}
use Rattle.pb_page.specs.Content.{section}
use Rattle.pb_page.specs.Page.{voters}
use Rattle.pb_page.proofs.Grown.{alike_put, then_put}
use Rattle.pb_page.proofs.Tables.{voters_are}
use Rattle.pb_page.proofs.voters.put_won.Goals as goal

put_failed : {T E : Type 0} (r : Result T E) (Put : Type 0) → IsErr r → OnOk r Put
put_failed {T} {E} (Ok x) Put failed = absurd (true≢false (sym failed))
put_failed {T} {E} (Err x) Put failed = tt

pub returns-in_err-put_row : goal.returns-in_err-put_row
returns-in_err-put_row c = put_failed _ _ c.from_residual-in_err-put_row.ensures.0

pub returns : goal.returns
returns c =
    alike_put _ _ (section c.args.language.now (voters c.args.language.now c.args.won.now)) _ _ (then_put _ _ _ _ _ _ c.in_ok-put.ensures
    (then_put _ _ _ _ _ _ c.in_ok-say_got.ensures
    (then_put _ _ _ _ _ _ c.in_ok-put-2.ensures
    (then_put _ _ _ _ _ _ c.in_ok-put_rows.ensures
    (then_put _ _ _ _ _ _ (rw c.at_least-most.ensures at c.in_ok-put_row.ensures)
    c.put_own.ensures)))))
    (voters_are c.args.language.now c.args.won.now)
