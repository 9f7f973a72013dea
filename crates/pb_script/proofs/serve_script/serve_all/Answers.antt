use Rattle.pb_script.proofs.Servings.{unserved}
use Rattle.pb_script.proofs.serve_script.serve_all.Goals as goal

pub returns-in-Err-clause-err : goal.returns-in-Err-clause-err
returns-in-Err-clause-err g c = rw c.unshared.ensures (unserved c.args.clerks c.in-Ok.desk c.in-Err.fault c.in-Err.ensures.err)

pub returns-clause-serves : goal.returns-clause-serves
returns-clause-serves g c = c.in_ok-serve_shared.ensures.serves
