use Rattle.std.proofs.Common.{◌≡◌, ◌<◌, ◌≤◌, ◌∙◌, [], ◌∷◌, length, ap, subst, sym, arith}
use Rattle.std.specs.Prelude.{All, sum_by}
use Rattle.std.proofs.lemmas.List.{length-append}
use Rattle.std.proofs.lemmas.List.Sums.{sum_by_push}
use Rattle.pb_core.specs.Election.{most_projects}
use Rattle.pb_price.specs.Inner.Claims.{all_joined}
use Rattle.pb_price.specs.Inner.Working.{gathered}
use Rattle.pb_price.proofs.Workers.{gathered_popped, joined_popped, length_placed, popped}
use Rattle.pb_price.proofs.gathering.gather.Goals as goal

pub take_in-priced-requires-clause-worker : goal.take_in-priced-requires-clause-worker
take_in-priced-requires-clause-worker g c =
    (popped (λ w. w.claim.seat.table_id ≡ c.args.claims.now.table.shared.table_id) c.loop-worker.done.items c.pop.new.self.items c.in-Some.worker
    c.in-Some.ensures.items c.loop-worker.invariant.claims).1

pub take_in-priced-requires-clause-known : goal.take_in-priced-requires-clause-known
take_in-priced-requires-clause-known g c =
    subst (λ pieces. All (λ answer. answer.piece < pieces) c.in-Some.worker.answers.items) (sym c.loop-worker.invariant.one_each)
    (popped (λ w. All (λ answer. answer.piece < c.args.pieces) w.answers.items) c.loop-worker.done.items c.pop.new.self.items c.in-Some.worker
    c.in-Some.ensures.items c.loop-worker.invariant.known).1

pub loop-worker-preserved : goal.loop-worker-preserved
loop-worker-preserved g c =
    let h = c.loop-worker.invariant in
    let w = c.in-Some.worker in
    let rest = c.pop.new.self.items in
    let e = c.in-Some.ensures.items in
    let claims = popped (λ w. w.claim.seat.table_id ≡ c.args.claims.now.table.shared.table_id) c.loop-worker.done.items rest w e h.claims in
    let known = popped (λ w. All (λ answer. answer.piece < c.args.pieces) w.answers.items) c.loop-worker.done.items rest w e h.known in
    let few = popped (λ w. length w.answers.items ≤ most_projects) c.loop-worker.done.items rest w e h.few in
    let taken = c.take_in-priced.ensures in record {
      same = taken.stock;
      claims = claims.0;
      known = known.0;
      few = few.0;
      one_each = ap length taken.prices ∙ length_placed c.loop-worker.prices.items w.answers.items ∙ h.one_each;
      joined =
          ap (λ v. all_joined (λ w. w.claim.seat.me.0) v rest) taken.joined
          ∙ sym (joined_popped (λ w. w.claim.seat.me.0) c.loop-worker.stock.seat.me.0 rest w)
          ∙ ap (all_joined (λ w. w.claim.seat.me.0) c.loop-worker.stock.seat.me.0) (sym e)
          ∙ h.joined;
      read =
          ap (λ prices. gathered (λ w. w.answers.items) prices rest) taken.prices
          ∙ sym (gathered_popped (λ w. w.answers.items) c.loop-worker.prices.items rest w)
          ∙ ap (gathered (λ w. w.answers.items) c.loop-worker.prices.items) (sym e)
          ∙ h.read;
      priced = omega (arith, taken.priced, h.priced, ap (sum_by (λ w. length w.answers.items)) e, sum_by_push (λ w. length w.answers.items) rest w);
      workers = omega (arith, h.workers, ap length e, length-append rest (w ∷ []));
      fits = omega (arith, h.fits, few.1, taken.priced);
    }
