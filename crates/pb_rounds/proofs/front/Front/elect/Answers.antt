use Rattle.std.proofs.Common.{◌≡◌, ◌+◌, ◌∙◌, refl, set, subst, sym, true, ap, arith}
use Rattle.pb_price.specs.Supporters.{cost_at}
use Rattle.pb_rounds.specs.Inner.Front.{CanAllPay, FrontView, IsFront, with_next}
use Rattle.pb_rounds.proofs.Fronts.{next_front, next_known, next_spent_fits, price_here, rests_here}
use Rattle.pb_rounds.proofs.front.Front.elect.Goals as goal

pub elect-requires-clause-rests : goal.elect-requires-clause-rests
elect-requires-clause-rests g c =
    let f : FrontView = record { measure = c.self.inside.measure; support = c.self.inside.supporters.now; queue = c.self.inside.queue.keys; marks = c.self.inside.marks.items; spent = c.self.inside.spent; outcome = c.self.inside.outcome } in
    let front : IsFront (with_next c.args.head f) = subst (λ (v : FrontView). IsFront (with_next c.args.head v)) (sym c.self.view_is) c.requires.front in
    let pays : CanAllPay f.support f.outcome.rests c.args.head = subst (λ (v : FrontView). CanAllPay v.support v.outcome.rests c.args.head) (sym c.self.view_is) c.requires.can_pay in
    rests_here (with_next c.args.head f) front

pub elect-requires-clause-known : goal.elect-requires-clause-known
elect-requires-clause-known g c =
    let f : FrontView = record { measure = c.self.inside.measure; support = c.self.inside.supporters.now; queue = c.self.inside.queue.keys; marks = c.self.inside.marks.items; spent = c.self.inside.spent; outcome = c.self.inside.outcome } in
    let front : IsFront (with_next c.args.head f) = subst (λ (v : FrontView). IsFront (with_next c.args.head v)) (sym c.self.view_is) c.requires.front in
    let pays : CanAllPay f.support f.outcome.rests c.args.head = subst (λ (v : FrontView). CanAllPay v.support v.outcome.rests c.args.head) (sym c.self.view_is) c.requires.can_pay in
    next_known (with_next c.args.head f) front c.args.head f.queue refl pays

pub elect-requires-clause-price : goal.elect-requires-clause-price
elect-requires-clause-price g c =
    let f : FrontView = record { measure = c.self.inside.measure; support = c.self.inside.supporters.now; queue = c.self.inside.queue.keys; marks = c.self.inside.marks.items; spent = c.self.inside.spent; outcome = c.self.inside.outcome } in
    let front : IsFront (with_next c.args.head f) = subst (λ (v : FrontView). IsFront (with_next c.args.head v)) (sym c.self.view_is) c.requires.front in
    let pays : CanAllPay f.support f.outcome.rests c.args.head = subst (λ (v : FrontView). CanAllPay v.support v.outcome.rests c.args.head) (sym c.self.view_is) c.requires.can_pay in
    price_here (with_next c.args.head f) front c.args.head f.queue refl pays

pub mark-requires : goal.mark-requires
mark-requires g c =
    let f : FrontView = record { measure = c.self.inside.measure; support = c.self.inside.supporters.now; queue = c.self.inside.queue.keys; marks = c.self.inside.marks.items; spent = c.self.inside.spent; outcome = c.self.inside.outcome } in
    let front : IsFront (with_next c.args.head f) = subst (λ (v : FrontView). IsFront (with_next c.args.head v)) (sym c.self.view_is) c.requires.front in
    let pays : CanAllPay f.support f.outcome.rests c.args.head = subst (λ (v : FrontView). CanAllPay v.support v.outcome.rests c.args.head) (sym c.self.view_is) c.requires.can_pay in
    let known = next_known (with_next c.args.head f) front c.args.head f.queue refl pays in
    omega (arith, known, front.marked.one_each, c.place-place.ensures)

pub cost-requires : goal.cost-requires
cost-requires g c =
    let f : FrontView = record { measure = c.self.inside.measure; support = c.self.inside.supporters.now; queue = c.self.inside.queue.keys; marks = c.self.inside.marks.items; spent = c.self.inside.spent; outcome = c.self.inside.outcome } in
    let front : IsFront (with_next c.args.head f) = subst (λ (v : FrontView). IsFront (with_next c.args.head v)) (sym c.self.view_is) c.requires.front in
    let pays : CanAllPay f.support f.outcome.rests c.args.head = subst (λ (v : FrontView). CanAllPay v.support v.outcome.rests c.args.head) (sym c.self.view_is) c.requires.can_pay in
    let known = next_known (with_next c.args.head f) front c.args.head f.queue refl pays in
    omega (arith, known, c.place-place.ensures)

pub overflow_add-self : goal.overflow_add-self
overflow_add-self g c =
    let f : FrontView = record { measure = c.self.inside.measure; support = c.self.inside.supporters.now; queue = c.self.inside.queue.keys; marks = c.self.inside.marks.items; spent = c.self.inside.spent; outcome = c.self.inside.outcome } in
    let front : IsFront (with_next c.args.head f) = subst (λ (v : FrontView). IsFront (with_next c.args.head v)) (sym c.self.view_is) c.requires.front in
    let pays : CanAllPay f.support f.outcome.rests c.args.head = subst (λ (v : FrontView). CanAllPay v.support v.outcome.rests c.args.head) (sym c.self.view_is) c.requires.can_pay in
    let cost : c.from-2.result ≡ cost_at f.support c.args.head.place = c.from-2.ensures ∙ c.from.view_is ∙ c.cost.ensures.cost ∙ ap (cost_at f.support) c.place-place.ensures in
    let fits = next_spent_fits (with_next c.args.head f) front c.args.head f.queue refl pays in
    omega (arith, fits, cost)

pub returns-clause-front : goal.returns-clause-front
returns-clause-front g c =
    let f : FrontView = record { measure = c.self.inside.measure; support = c.self.inside.supporters.now; queue = c.self.inside.queue.keys; marks = c.self.inside.marks.items; spent = c.self.inside.spent; outcome = c.self.inside.outcome } in
    let front : IsFront (with_next c.args.head f) = subst (λ (v : FrontView). IsFront (with_next c.args.head v)) (sym c.self.view_is) c.requires.front in
    let pays : CanAllPay f.support f.outcome.rests c.args.head = subst (λ (v : FrontView). CanAllPay v.support v.outcome.rests c.args.head) (sym c.self.view_is) c.requires.can_pay in
    let cost : c.from-2.result ≡ cost_at f.support c.args.head.place = c.from-2.ensures ∙ c.from.view_is ∙ c.cost.ensures.cost ∙ ap (cost_at f.support) c.place-place.ensures in
    next_front (with_next c.args.head f) front c.args.head f.queue refl pays c.mark.new.marks.items
    (c.mark.ensures ∙ ap (λ n. set f.marks n true) c.place-place.ensures) (f.spent + c.from-2.result) (ap (λ n. f.spent + n) cost) c.elect.new.outcome c.in_ok-elect.ensures
