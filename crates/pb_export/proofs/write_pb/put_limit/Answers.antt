use Rattle.pb_export.proofs.Grown.{none_grown}
use Rattle.pb_export.proofs.write_pb.put_limit.Goals as goal

pub returns-in_ok-put_pair : goal.returns-in_ok-put_pair
returns-in_ok-put_pair c = rw (c.in-Some.is, ← c.format.ensures.text, ← c.text.ensures) c.in_ok-put_pair.ensures

pub returns-in_default : goal.returns-in_default
returns-in_default c = rw c.in_default.is (none_grown c.args.rows.now.text)
