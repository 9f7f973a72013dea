use Rattle.pb_page.proofs.Grown.{markup}
use Rattle.pb_page.proofs.put.put_own.Goals as goal

pub returns : goal.returns
returns c = markup c.args.markup.now _ _ (rw c.as_bytes.ensures.value at c.in_ok-extend_from_slice.ensures.items)
