use Rattle.std.proofs.Common.{◌≡◌, ℕ, ◌+◌, List, length, None, Some, true, set, subst, sym, ◌∙◌, ap, rules, arith}
use Rattle.pb_price.specs.Price.{AreRests}
use Rattle.pb_price.specs.Supporters.{IsSupport, SupportView, cost_at}
use Rattle.pb_rounds.specs.Inner.Front.{FrontView}
use Rattle.pb_rounds.specs.Inner.RaiseEnds.{IsTried}
use Rattle.pb_rounds.specs.declared.raise_end.RaiseEnd.TheVariants.{Exhausted, GoesOn, Over}
use Rattle.pb_rounds.proofs.Fronts.{front_over, front_tries}
use Rattle.pb_rounds.specs.Inner.Bounds.{HasBounds}
use Rattle.pb_rounds.specs.Inner.Queue.{AreMarked}
use Rattle.pb_rounds.proofs.BoundQueue.{found_at}
use Rattle.pb_rounds.proofs.TrialRounds.{Trying, best_known, best_price, ends_exhausted, ends_going_on, fewer_rounds, mark_known, over_budget, spent_fits, trying_more}
use Rattle.pb_rounds.proofs.trial.Trial.end_of.Goals as goal

pub returns-then-spent-most : goal.returns-then-spent-most
returns-then-spent-most g c =
    front_over c.args.front.now c.requires.front c.args.share c.requires.from c.requires.small c.args.budget c.in_ok-spent.field-0 c.in_ok-spent.ensures.spent (omega arith)
    c.start.new.outcome.elected

pub loop-best-init : goal.loop-best-init
loop-best-init g c =
    let same : c.front.inside.supporters.now ≡ c.args.front.now.support = ap (λ (f : FrontView). f.support) c.front.view_is in
    record {
      is_support = subst IsSupport (sym same) c.requires.front.is_support;
      within = omega arith;
      trying = subst (λ (s : SupportView). Trying c.args.front.now.measure s c.args.share c.start.new.queue.keys c.start.new.outcome c.start.new.marks.items c.in_ok-spent.field-0) (sym same)
          (front_tries c.args.front.now c.requires.front c.args.share c.requires.from c.requires.small c.start.new.queue.keys c.in_ok-spent.ensures.queue c.start.new.outcome c.in_ok-spent.ensures.outcome
          c.start.new.marks.items c.in_ok-spent.ensures.marks c.in_ok-spent.field-0 c.in_ok-spent.ensures.spent);
    }

pub next_best-requires-clause-bounds : goal.next_best-requires-clause-bounds
next_best-requires-clause-bounds g c =
    let t = c.loop-best.invariant.trying in
    let same : c.as_slice.result.now ≡ c.loop-best.outcome.rests = search rules in (
      c.args.front.now.measure,
      t.bounded.left,
      subst (λ (rs : List ℕ). HasBounds c.args.front.now.measure c.front.inside.supporters.now rs t.bounded.left c.loop-best.queue.keys) (sym same) t.bounded.bounds,
    )

pub elect-requires-clause-known : goal.elect-requires-clause-known
elect-requires-clause-known g c =
    let t = c.loop-best.invariant.trying in
    let same : c.as_slice.result.now ≡ c.loop-best.outcome.rests = search rules in
    let found = found_at c.args.front.now.measure c.front.inside.supporters.now c.loop-best.outcome.rests c.as_slice.result.now t.bounded.left same None c.loop-best.queue.keys c.next_best.new.queue.keys
    c.in_ok-best.field-0 (Some c.in-Some.best) (c.in_ok-best.ensures c.args.front.now.measure t.bounded.left) c.in-Some.is t.bounded.bounds in
    best_known c.args.front.now.measure c.front.inside.supporters.now c.args.share t.bounded.left c.loop-best.outcome t.bounded.progress c.in-Some.best found.0

pub elect-requires-clause-price : goal.elect-requires-clause-price
elect-requires-clause-price g c =
    let t = c.loop-best.invariant.trying in
    let same : c.as_slice.result.now ≡ c.loop-best.outcome.rests = search rules in
    let found = found_at c.args.front.now.measure c.front.inside.supporters.now c.loop-best.outcome.rests c.as_slice.result.now t.bounded.left same None c.loop-best.queue.keys c.next_best.new.queue.keys
    c.in_ok-best.field-0 (Some c.in-Some.best) (c.in_ok-best.ensures c.args.front.now.measure t.bounded.left) c.in-Some.is t.bounded.bounds in
    best_price c.args.front.now.measure c.front.inside.supporters.now c.args.share t.bounded.left c.loop-best.outcome t.bounded.progress c.in-Some.best found.0

pub mark-requires : goal.mark-requires
mark-requires g c =
    let t = c.loop-best.invariant.trying in
    let same : c.as_slice.result.now ≡ c.loop-best.outcome.rests = search rules in
    let found = found_at c.args.front.now.measure c.front.inside.supporters.now c.loop-best.outcome.rests c.as_slice.result.now t.bounded.left same None c.loop-best.queue.keys c.next_best.new.queue.keys
    c.in_ok-best.field-0 (Some c.in-Some.best) (c.in_ok-best.ensures c.args.front.now.measure t.bounded.left) c.in-Some.is t.bounded.bounds in
    let known = mark_known c.args.front.now.measure c.front.inside.supporters.now c.loop-best.invariant.is_support c.args.share c.loop-best.queue.keys c.loop-best.outcome c.loop-best.marks.items c.loop-best.spent t c.in-Some.best c.next_best.new.queue.keys found in
    omega (arith, known, c.place-place.ensures)

pub cost-requires : goal.cost-requires
cost-requires g c =
    let t = c.loop-best.invariant.trying in
    let same : c.as_slice.result.now ≡ c.loop-best.outcome.rests = search rules in
    let found = found_at c.args.front.now.measure c.front.inside.supporters.now c.loop-best.outcome.rests c.as_slice.result.now t.bounded.left same None c.loop-best.queue.keys c.next_best.new.queue.keys
    c.in_ok-best.field-0 (Some c.in-Some.best) (c.in_ok-best.ensures c.args.front.now.measure t.bounded.left) c.in-Some.is t.bounded.bounds in
    let known = best_known c.args.front.now.measure c.front.inside.supporters.now c.args.share t.bounded.left c.loop-best.outcome t.bounded.progress c.in-Some.best found.0 in
    omega (arith, known, c.place-place.ensures)

pub overflow_add-spent : goal.overflow_add-spent
overflow_add-spent g c =
    let t = c.loop-best.invariant.trying in
    let same : c.as_slice.result.now ≡ c.loop-best.outcome.rests = search rules in
    let found = found_at c.args.front.now.measure c.front.inside.supporters.now c.loop-best.outcome.rests c.as_slice.result.now t.bounded.left same None c.loop-best.queue.keys c.next_best.new.queue.keys
    c.in_ok-best.field-0 (Some c.in-Some.best) (c.in_ok-best.ensures c.args.front.now.measure t.bounded.left) c.in-Some.is t.bounded.bounds in
    let cost : c.from-in-Some.result ≡ cost_at c.front.inside.supporters.now c.in-Some.best.place =
    c.from-in-Some.ensures ∙ c.from.view_is ∙ c.cost.ensures.cost ∙ ap (cost_at c.front.inside.supporters.now) c.place-place.ensures in
    let fits = spent_fits c.args.front.now.measure c.front.inside.supporters.now c.loop-best.invariant.is_support c.args.share c.loop-best.queue.keys c.loop-best.outcome c.loop-best.marks.items c.loop-best.spent t c.in-Some.best c.next_best.new.queue.keys found in
    omega (arith, fits, cost)

pub returns-then-spent-most-2 : goal.returns-then-spent-most-2
returns-then-spent-most-2 g c =
    let support : c.front.inside.supporters.now ≡ c.args.front.now.support = ap (λ (f : FrontView). f.support) c.front.view_is in
    let t = c.loop-best.invariant.trying in
    let same : c.as_slice.result.now ≡ c.loop-best.outcome.rests = search rules in
    let found = found_at c.args.front.now.measure c.front.inside.supporters.now c.loop-best.outcome.rests c.as_slice.result.now t.bounded.left same None c.loop-best.queue.keys c.next_best.new.queue.keys
    c.in_ok-best.field-0 (Some c.in-Some.best) (c.in_ok-best.ensures c.args.front.now.measure t.bounded.left) c.in-Some.is t.bounded.bounds in
    let cost : c.from-in-Some.result ≡ cost_at c.front.inside.supporters.now c.in-Some.best.place =
    c.from-in-Some.ensures ∙ c.from.view_is ∙ c.cost.ensures.cost ∙ ap (cost_at c.front.inside.supporters.now) c.place-place.ensures in
    subst (λ (s : SupportView). IsTried c.args.front.now.measure s c.args.budget c.args.share c.elect.new.outcome.elected Over) support
    (over_budget c.args.front.now.measure c.front.inside.supporters.now c.loop-best.invariant.is_support c.args.share c.loop-best.queue.keys c.loop-best.outcome c.loop-best.marks.items c.loop-best.spent t c.in-Some.best c.next_best.new.queue.keys found c.elect.new.outcome c.in_ok-elect.ensures (c.loop-best.spent + c.from-in-Some.result) (ap (λ n. c.loop-best.spent + n) cost) c.args.budget (omega arith) c.elect.new.outcome.elected)

pub loop-best-smaller : goal.loop-best-smaller
loop-best-smaller g c =
    let t = c.loop-best.invariant.trying in
    let same : c.as_slice.result.now ≡ c.loop-best.outcome.rests = search rules in
    let found = found_at c.args.front.now.measure c.front.inside.supporters.now c.loop-best.outcome.rests c.as_slice.result.now t.bounded.left same None c.loop-best.queue.keys c.next_best.new.queue.keys
    c.in_ok-best.field-0 (Some c.in-Some.best) (c.in_ok-best.ensures c.args.front.now.measure t.bounded.left) c.in-Some.is t.bounded.bounds in
    fewer_rounds c.args.front.now.measure c.front.inside.supporters.now c.args.share t.bounded.left c.loop-best.outcome t.bounded.progress c.in-Some.best found.0 c.next_best.new.queue.keys found.1 c.elect.new.outcome c.in_ok-elect.ensures

pub loop-best-preserved : goal.loop-best-preserved
loop-best-preserved g c =
    let t = c.loop-best.invariant.trying in
    let same : c.as_slice.result.now ≡ c.loop-best.outcome.rests = search rules in
    let found = found_at c.args.front.now.measure c.front.inside.supporters.now c.loop-best.outcome.rests c.as_slice.result.now t.bounded.left same None c.loop-best.queue.keys c.next_best.new.queue.keys
    c.in_ok-best.field-0 (Some c.in-Some.best) (c.in_ok-best.ensures c.args.front.now.measure t.bounded.left) c.in-Some.is t.bounded.bounds in
    let cost : c.from-in-Some.result ≡ cost_at c.front.inside.supporters.now c.in-Some.best.place =
    c.from-in-Some.ensures ∙ c.from.view_is ∙ c.cost.ensures.cost ∙ ap (cost_at c.front.inside.supporters.now) c.place-place.ensures in
    record {
      is_support = c.loop-best.invariant.is_support;
      within = omega arith;
      trying = trying_more c.args.front.now.measure c.front.inside.supporters.now c.loop-best.invariant.is_support c.args.share c.loop-best.queue.keys c.loop-best.outcome c.loop-best.marks.items c.loop-best.spent t c.in-Some.best c.next_best.new.queue.keys found c.elect.new.outcome c.in_ok-elect.ensures (c.loop-best.spent + c.from-in-Some.result) (ap (λ n. c.loop-best.spent + n) cost)
          c.mark.new.marks.items (c.mark.ensures ∙ ap (λ n. set c.loop-best.marks.items n true) c.place-place.ensures);
    }

pub is_exhausted-requires : goal.is_exhausted-requires
is_exhausted-requires g c =
    let marked : c.as_slice-2.result.now ≡ c.loop-best.marks.items = search rules in
    ap length marked ∙ c.loop-best.invariant.trying.marked.one_each

pub returns-then-is_exhausted : goal.returns-then-is_exhausted
returns-then-is_exhausted g c =
    let support : c.front.inside.supporters.now ≡ c.args.front.now.support = ap (λ (f : FrontView). f.support) c.front.view_is in
    let marked : c.as_slice-2.result.now ≡ c.loop-best.marks.items = search rules in
    let t = c.loop-best.invariant.trying in
    let same : c.as_slice.result.now ≡ c.loop-best.outcome.rests = search rules in
    let found = found_at c.args.front.now.measure c.front.inside.supporters.now c.loop-best.outcome.rests c.as_slice.result.now t.bounded.left same None c.loop-best.queue.keys c.next_best.new.queue.keys
    c.in_ok-best.field-0 None (c.in_ok-best.ensures c.args.front.now.measure t.bounded.left) c.in_default.is t.bounded.bounds in
    subst (λ (s : SupportView). IsTried c.args.front.now.measure s c.args.budget c.args.share c.loop-best.outcome.elected Exhausted) support
    (ends_exhausted c.args.front.now.measure c.front.inside.supporters.now c.loop-best.invariant.is_support c.args.share c.args.budget c.loop-best.queue.keys c.next_best.new.queue.keys c.loop-best.outcome c.loop-best.marks.items c.loop-best.spent t c.loop-best.invariant.within found c.is_exhausted.result
    (λ elected marks spent. c.is_exhausted.ensures elected (subst (AreMarked c.front.inside.supporters.now elected) (sym marked) marks) spent) c.if-is_exhausted.true)

pub returns : goal.returns
returns g c =
    let support : c.front.inside.supporters.now ≡ c.args.front.now.support = ap (λ (f : FrontView). f.support) c.front.view_is in
    let marked : c.as_slice-2.result.now ≡ c.loop-best.marks.items = search rules in
    let t = c.loop-best.invariant.trying in
    let same : c.as_slice.result.now ≡ c.loop-best.outcome.rests = search rules in
    let found = found_at c.args.front.now.measure c.front.inside.supporters.now c.loop-best.outcome.rests c.as_slice.result.now t.bounded.left same None c.loop-best.queue.keys c.next_best.new.queue.keys
    c.in_ok-best.field-0 None (c.in_ok-best.ensures c.args.front.now.measure t.bounded.left) c.in_default.is t.bounded.bounds in
    subst (λ (s : SupportView). IsTried c.args.front.now.measure s c.args.budget c.args.share c.loop-best.outcome.elected GoesOn) support
    (ends_going_on c.args.front.now.measure c.front.inside.supporters.now c.loop-best.invariant.is_support c.args.share c.args.budget c.loop-best.queue.keys c.next_best.new.queue.keys c.loop-best.outcome c.loop-best.marks.items c.loop-best.spent t c.loop-best.invariant.within found c.is_exhausted.result
    (λ elected marks spent. c.is_exhausted.ensures elected (subst (AreMarked c.front.inside.supporters.now elected) (sym marked) marks) spent) c.if-is_exhausted.false)

pub next_best-requires-clause-rests : goal.next_best-requires-clause-rests
next_best-requires-clause-rests g c =
    let same : c.as_slice.result.now ≡ c.loop-best.outcome.rests = search rules in
    subst (AreRests c.front.inside.supporters.now.voters) (sym same) c.loop-best.invariant.trying.bounded.progress.rests_are

pub elect-requires-clause-rests : goal.elect-requires-clause-rests
elect-requires-clause-rests g c = c.loop-best.invariant.trying.bounded.progress.rests_are
