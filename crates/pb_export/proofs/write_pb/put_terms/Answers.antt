use Rattle.std.proofs.lemmas.Result.{on_ok_weaker}
use Rattle.pb_export.specs.Inner.Parts.{limit_rows}
use Rattle.pb_export.proofs.Grown.{grown}
use Rattle.pb_export.proofs.write_pb.put_terms.Goals as goal

pub returns : goal.returns
returns c =
    let old = c.args.rows.now.text in
    let b = grown _ _ old c.put_pair.new.rows.text c.put_pair-2.new.rows.text c.in_ok-put_pair.ensures c.in_ok-put_pair-2.ensures in
    on_ok_weaker c.put_limit.result (λ limit.
    rw (c.text.ensures, c.text-2.ensures, c.as_str.ensures.value, c.in_ok-budget.ensures) at (grown _ (limit_rows c.args.terms.max_length) old c.put_pair-2.new.rows.text c.put_limit.new.rows.text b limit))
    c.put_limit.ensures
