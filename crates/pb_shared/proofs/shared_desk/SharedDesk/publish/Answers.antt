use Rattle.std.proofs.Common.{[], ap, sym, refl, ◌∙◌, arith}
use Rattle.pb_shared.specs.Inner.Plays.{freed, journal_out, published}
use Rattle.pb_shared.proofs.Offers.{carries, frees_again, in_hand, stores_at}
use Rattle.pb_shared.proofs.shared_desk.SharedDesk.publish.Goals as goal

pub exchange-requires : goal.exchange-requires
exchange-requires c = (c.requires.own ∙ sym (ap (λ v. v.id) c.self.view_is), (_, carries c.args.seat.now.me.1 _ c.requires.out.taken))

pub store-requires : goal.store-requires
store-requires c = let words = c.self.invariant.words in let out = c.requires.out in let served = c.requires.desk in (
  c.exchange.ensures.0 ∙ (c.requires.own ∙ sym (ap (λ v. v.id) c.self.view_is)),
  omega arith,
  stores_at c.self.inside.table.shared.key _ _ c.args.seat.now.me.0 c.args.desk served.0 _ _ out.role out.holds served.1 served.2 c.entries.ensures.legal c.entries.ensures.fits (c.from-entries.ensures ∙ c.entries.ensures.entries)
      (in_hand c.args.seat.now.me _ c.args.desk out.taken c.exchange.ensures.3),
)

pub store-requires-2 : goal.store-requires-2
store-requires-2 c = let words = c.self.invariant.words in let out = c.requires.out in (
  c.store.ensures.0 ∙ (c.exchange.ensures.0 ∙ (c.requires.own ∙ sym (ap (λ v. v.id) c.self.view_is))),
  omega arith,
  frees_again c.self.inside.table.shared.key _ _ _ _ (ap (λ m. m.0.role) c.exchange.ensures.3 ∙ out.role) refl c.store.ensures.2.1,
)

pub returns-clause-freed : goal.returns-clause-freed
returns-clause-freed c =
    c.store-2.ensures.2.1 ∙ ((λ i. (freed (c.store.ensures.2.1 i).0, [])) ∙ (λ i. (freed (published (c.exchange.ensures.3 i).0 (journal_out (c.exchange.ensures.3 i).1)), [])))
