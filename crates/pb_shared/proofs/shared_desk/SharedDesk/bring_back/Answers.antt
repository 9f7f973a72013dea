use Rattle.std.proofs.Common.{[], ap, sym, ◌∙◌, arith}
use Rattle.pb_shared.specs.Inner.Plays.{freed}
use Rattle.pb_shared.proofs.Offers.{carries, frees_at, in_hand}
use Rattle.pb_shared.proofs.shared_desk.SharedDesk.bring_back.Goals as goal

pub exchange-requires : goal.exchange-requires
exchange-requires c = (c.requires.own ∙ sym (ap (λ v. v.id) c.self.view_is), (_, carries c.args.seat.now.me.1 _ c.requires.out.taken))

pub store-requires : goal.store-requires
store-requires c = let words = c.self.invariant.words in let out = c.requires.out in (
  c.exchange.ensures.0 ∙ (c.requires.own ∙ sym (ap (λ v. v.id) c.self.view_is)),
  omega arith,
  frees_at c.self.inside.table.shared.key _ _ c.args.seat.now.me.0 c.args.desk _ out.role out.holds c.requires.desk (in_hand c.args.seat.now.me _ c.args.desk out.taken c.exchange.ensures.3),
)

pub returns-clause-freed : goal.returns-clause-freed
returns-clause-freed c = c.store.ensures.2.1 ∙ (λ i. (freed (c.exchange.ensures.3 i).0, []))
