use Rattle.std.proofs.Common.{ap, sym, ◌∙◌, ◌+◌, arith}
use Rattle.pb_shared.proofs.Offers.{carries, locks_at}
use Rattle.pb_shared.proofs.shared_desk.SharedDesk.take_desk.Goals as goal

pub compare_exchange-found-requires : goal.compare_exchange-found-requires
compare_exchange-found-requires c = let words = c.self.invariant.words in
    (c.requires.own ∙ sym (ap (λ v. v.id) c.self.view_is), omega arith, locks_at c.self.inside.table.shared.key _ _ _ _ _ c.requires.idle (ap (λ k. k + 1) c.from-word.ensures))

pub exchange-requires : goal.exchange-requires
exchange-requires c = let won = c.compare_exchange-found.ensures.2.1.0 c.if-found-ne0.false in (
  c.compare_exchange-found.ensures.0 ∙ (c.requires.own ∙ sym (ap (λ v. v.id) c.self.view_is)),
  (_, carries c.compare_exchange-found.new.seat.me.1 _ (ap (λ m. m.1) won.2)),
)
