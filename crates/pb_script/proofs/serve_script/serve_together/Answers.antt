use Rattle.std.proofs.Common.{◌∙◌, sym}
use Rattle.std.proofs.lemmas.Result.{IfOk-weaker}
use Rattle.pb_script.proofs.Servings.{AreBack-from, AreBack-same}
use Rattle.pb_script.proofs.serve_script.serve_together.Goals as goal

pub returns : goal.returns
returns g c =
    let shared = c.args.shared.now in
    let lists = c.args.work.now.lists.now in
    let back = c.in_ok-back.back in
    let met = c.in_ok-back.ensures in
    let are = AreBack-from shared lists c.args.clerks.items back.items c.requires.fresh (sym back.ok.0 ∙ met.len ∙ c.args.clerks.ok.0)
    (λ i r below. let work = (met.each i r below).1 in (work.job, work.job_is, work.call.met)) in
    IfOk-weaker c.taken_back.result _ _ (λ both same. AreBack-same shared lists _ both.0.items _ both.1.items are same.0 same.1) c.taken_back.ensures
