use Rattle.std.proofs.Common.{◌≡◌, take}
use Rattle.std.specs.Prelude.{sum_by}
use Rattle.pb_page.specs.Inner.Grown.{Grows}
use Rattle.pb_page.specs.Page.{blocks}
use Rattle.pb_price.specs.Supporters.{cost_at, support_of}
use Rattle.pb_page.proofs.top.put_blocks_at.Given as goal

abbrev pub invariant-loop-place : goal.invariant-loop-place
invariant-loop-place l = record {
  before : l.before ≡ sum_by (cost_at (support_of l.election)) (take l.place-index l.winners);
  grown : Grows l.fn.page.items l.page.items (blocks l.language.costs l.election 0 (take l.place-index l.winners));
}
