use Rattle.std.proofs.Common.{◌≡◌, ℕ, ◌+◌, ◌-◌, [], ap, ◌∙◌, arith, rules}
use Rattle.std.proofs.lemmas.List.Elements.{All-push}
use Rattle.std.proofs.lemmas.Result.{IfOk-from_err}
use Rattle.pb_price.specs.Inner.Claims.{drawn}
use Rattle.pb_price.proofs.worker.staff.Goals as goal

pub loop-number-preserved : goal.loop-number-preserved
loop-number-preserved g c =
    let one_less : c.loop-number.stock.seat.me.0.seats - 1 ≡ c.args.workers - (c.loop-number.number + 1) = omega (arith, ap (λ v. v.seats) c.loop-number.invariant.seats) in record {
      same = c.split-claim.ensures.same;
      seats = c.split-claim.ensures.left ∙ ap (λ (n : ℕ). drawn n []) one_less;
      all = search rules;
      claims = rw c.in_ok-push.ensures.items (All-push (λ w. w.claim.seat.table_id ≡ c.args.claims.now.table.shared.table_id) _ _ c.loop-number.invariant.claims c.split-claim.ensures.worker.0);
      fresh = rw c.in_ok-push.ensures.items (All-push (λ w. (w.claim.seat.me.0 ≡ drawn 1 []) × (w.answers.items ≡ [])) _ _ c.loop-number.invariant.fresh (c.split-claim.ensures.worker.1, c.new-answers.ensures.items));
    }

pub returns-in_err-staff-clause-all : goal.returns-in_err-staff-clause-all
returns-in_err-staff-clause-all g c = IfOk-from_err _ _ c.from_residual.ensures.0

pub returns-in_err-staff-clause-claims : goal.returns-in_err-staff-clause-claims
returns-in_err-staff-clause-claims g c = IfOk-from_err _ _ c.from_residual.ensures.0

pub returns-in_err-staff-clause-fresh : goal.returns-in_err-staff-clause-fresh
returns-in_err-staff-clause-fresh g c = IfOk-from_err _ _ c.from_residual.ensures.0

pub returns-in_err-push-clause-all : goal.returns-in_err-push-clause-all
returns-in_err-push-clause-all g c = IfOk-from_err _ _ c.from_residual-in_err-push.ensures.0

pub returns-in_err-push-clause-claims : goal.returns-in_err-push-clause-claims
returns-in_err-push-clause-claims g c = IfOk-from_err _ _ c.from_residual-in_err-push.ensures.0

pub returns-in_err-push-clause-fresh : goal.returns-in_err-push-clause-fresh
returns-in_err-push-clause-fresh g c = IfOk-from_err _ _ c.from_residual-in_err-push.ensures.0
