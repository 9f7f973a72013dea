use Rattle.std.specs.Prelude.{flat_map}
use Rattle.pb_page.specs.Content.{section}
use Rattle.pb_page.specs.Page.{besides}
use Rattle.pb_page.proofs.Grown.{alike_put}
use Rattle.pb_page.proofs.Tables.{besides_are}
use Rattle.pb_page.proofs.compared.put_besides.Goals as goal

pub put_compared-put-requires : goal.put_compared-put-requires
put_compared-put-requires c = rw c.as_slice.ensures.value c.in_ok-other.ensures

pub returns : goal.returns
returns c =
    alike_put _ _ (flat_map (section c.args.facts.now.language) (besides c.args.facts.now c.args.count.now)) _ _ c.put_compared-put.ensures
    (besides_are c.args.facts.now c.args.count.now c.if-not-facts.false)
