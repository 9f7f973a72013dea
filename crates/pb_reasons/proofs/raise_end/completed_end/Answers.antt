use Rattle.std.proofs.Common.{Bool, ℕ, ap, subst, ◌+◌, ◌∙◌}
use Rattle.pb_price.specs.Supporters.{support_in}
use Rattle.pb_reasons.proofs.EachGrain.{exhausted_in, exhausted_of}
use Rattle.pb_reasons.proofs.RaiseEnds.{next_share_small, over_is_told, run_can_be_summed}
use Rattle.pb_reasons.proofs.Tellable.{count_can_be_told}
use Rattle.pb_reasons.specs.Inner.Raises.{TellsExhausted}
use Rattle.pb_rounds.specs.Cheapest.{IsRun}
use Rattle.pb_reasons.proofs.raise_end.completed_end.Goals as goal

pub next_share-share-requires : goal.next_share-share-requires
next_share-share-requires g c =
    let P : Bool → Type 0 = λ b. TellsExhausted c.args.election.now c.args.outcome.now b in
    let not_yet = subst P c.if-branch.false c.in_ok-is_exhausted.ensures in
    rw c.step_in_parts.ensures (next_share_small c.args.election.now c.args.options.now c.args.outcome.now c.requires.counted c.requires.add1
    (λ exhausted. not_yet (exhausted_of c.args.options.now.grain c.args.election.now c.args.election.now.budget c.args.outcome.now.elected exhausted)))

pub returns-then-branch : goal.returns-then-branch
returns-then-branch g c =
    let P : Bool → Type 0 = λ b. TellsExhausted c.args.election.now c.args.outcome.now b in
    let exhausted = subst P c.if-branch.true c.in_ok-is_exhausted.ensures in
    (c.requires.add1, exhausted_in c.args.options.now.grain c.args.election.now c.args.election.now.budget c.args.outcome.now.elected exhausted)

pub next_raise-raise-requires-clause-now : goal.next_raise-raise-requires-clause-now
next_raise-raise-requires-clause-now g c =
    (count_can_be_told c.args.election.now c.args.options.now c.args.outcome.now c.budget-budget.ensures.is_election c.requires.counted).known

pub next_raise-raise-requires-clause-known : goal.next_raise-raise-requires-clause-known
next_raise-raise-requires-clause-known g c =
    (run_can_be_summed c.args.options.now.measure c.args.options.now.grain c.args.election.now c.next_share-share.result c.in-Ok.next.elected c.in-Ok.next.rests
    c.budget-budget.ensures.is_election c.in-Ok.ensures.outcome.2).known

pub next_raise-raise-requires-clause-fits : goal.next_raise-raise-requires-clause-fits
next_raise-raise-requires-clause-fits g c =
    (run_can_be_summed c.args.options.now.measure c.args.options.now.grain c.args.election.now c.next_share-share.result c.in-Ok.next.elected c.in-Ok.next.rests
    c.budget-budget.ensures.is_election c.in-Ok.ensures.outcome.2).fits

pub returns-in_ok-raise-in-Ok : goal.returns-in_ok-raise-in-Ok
returns-in_ok-raise-in-Ok g c =
    let e = c.args.election.now in
    let options = c.args.options.now in
    let next = c.in-Ok.next in
    let raise = c.in_ok-raise-in-Ok.ensures in
    let P : Bool → Type 0 = λ b. TellsExhausted e c.args.outcome.now b in
    let not_yet = subst P c.if-branch.false c.in_ok-is_exhausted.ensures in
    let AtShare : ℕ → Type 0 = λ n. IsRun options.measure (support_in options.grain e) n next.elected next.rests in
    let share = c.next_share-share.ensures.share ∙ ap (λ n. c.args.outcome.now.share + n) c.step_in_parts.ensures in
    let run = subst AtShare share c.in-Ok.ensures.outcome.2 in
    over_is_told e options c.args.outcome.now c.requires.counted c.requires.add1 (λ exhausted. not_yet (exhausted_of options.grain e e.budget c.args.outcome.now.elected exhausted)) (record { elected = next.elected; rests = next.rests }) run
    c.in_ok-raise-in-Ok.field-0 (raise.0 ∙ c.in-Ok.ensures.outcome.0 ∙ share) raise.1 raise.2 raise.3
