use Rattle.std.proofs.Common.{◌∙◌}
use Rattle.pb_core.specs.Request.{asked}
use Rattle.pb_script.proofs.Servings.{AppendsFor-more}
use Rattle.pb_script.proofs.serve_script.serve_for.Goals as goal

pub loop-request-preserved : goal.loop-request-preserved
loop-request-preserved c =
    let so_far = c.loop-request.invariant in (
      c.serve.ensures.opening ∙ so_far.0,
      c.serve.ensures.room ∙ so_far.1,
      AppendsFor-more asked c.args.clerk c.args.requests.now c.loop-request.request-index c.request-item.result c.in-Ok.field-0 c.args.desk.now.journal
          c.loop-request.desk.journal c.serve.new.self.journal so_far.2 c.loop-request-test.true c.request-item.is c.in-Ok.ensures.journal,
    )
