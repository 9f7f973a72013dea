use Rattle.std.proofs.Common.{List, subst, sym}
use Rattle.pb_rows.specs.Reading.{Fields}
use Rattle.pb_export.specs.Inner.Growing.{Grows}
use Rattle.pb_export.proofs.Grown.{grown, none_grown}
use Rattle.pb_export.proofs.KeysBehind.{keys_more}
use Rattle.pb_export.proofs.write_pb.put_keys.Goals as goal

pub loop-key-init : goal.loop-key-init
loop-key-init c = none_grown c.args.rows.now.text

pub loop-key-preserved : goal.loop-key-preserved
loop-key-preserved c =
    let old = c.args.rows.now.text in
    subst (λ (rows : List Fields). Grows rows old c.put_key.new.rows.text) (sym (keys_more c.args.keys.now c.loop-key.key-index c.key-item.result c.loop-key-test.true c.key-item.is))
    (grown _ _ old c.loop-key.rows.text c.put_key.new.rows.text c.loop-key.invariant c.in_ok-put_key.ensures)
