use Rattle.std.proofs.Common.{◌≡◌, ◌<◌, ◌∙◌, ap, arith, length, subst, sym}
use Rattle.std.specs.Prelude.{slice_index}
use Rattle.std.proofs.lemmas.List.{get_or_default}
use Rattle.pb_reasons.specs.Counted.{CountedView}
use Rattle.pb_reasons.specs.Inner.Kept.{AreReasons, KeptView}
use Rattle.pb_reasons.specs.Inner.Numbers.{AreNumbers}
use Rattle.pb_reasons.specs.Inner.OfOutcome.{outcome_reason}
use Rattle.pb_reasons.specs.Inner.Told.{CanBeTold}
use Rattle.pb_rounds.specs.Outcome.{OutcomeView}
use Rattle.pb_reasons.proofs.Results.{project_filled}
use Rattle.pb_reasons.proofs.kept.Kept.project.Goals as goal

pub project-reason-requires-clause-told : goal.project-reason-requires-clause-told
project-reason-requires-clause-told c =
    let e = c.args.election.now in
    let told = subst (λ (k : KeptView). CanBeTold k.reasons.supporters.grain e c.args.counted.now.outcome) (sym c.self.view_is) c.requires.told in
    subst (λ (v : CountedView). CanBeTold c.self.inside.reasons.supporters.grain e v.outcome) (sym c.counted.view_is) told

pub project-reason-requires-clause-own : goal.project-reason-requires-clause-own
project-reason-requires-clause-own c =
    let e = c.args.election.now in
    let own = subst (λ (k : KeptView). AreReasons k.reasons.supporters.grain e c.args.counted.now.outcome k.reasons) (sym c.self.view_is) c.requires.own.reasons in
    subst (λ (v : CountedView). AreReasons c.self.inside.reasons.supporters.grain e v.outcome c.self.inside.reasons) (sym c.counted.view_is) own

pub returns : goal.returns
returns c =
    let e = c.args.election.now in
    let counted = c.args.counted.now in
    let place = c.args.place in
    let numbers = c.self.inside.numbers.items in
    let are : AreNumbers (length e.projects) counted.added numbers =
    subst (λ (k : KeptView). AreNumbers (length e.projects) counted.added k.numbers) (sym c.self.view_is) c.requires.own.numbers in
    let outcome = ap (λ (v : CountedView). v.outcome) c.counted.view_is in
    let grain = c.args.self.now.reasons.supporters.grain in
    let reason : c.project-reason.result ≡ outcome_reason grain e counted.outcome place =
    c.project-reason.ensures ∙ ap (λ (k : KeptView). outcome_reason k.reasons.supporters.grain e c.counted.inside.outcome place) c.self.view_is
    ∙ ap (λ (o : OutcomeView). outcome_reason grain e o place) outcome in
    let inside : place < length numbers = rw are.one_each c.requires.known in
    let number : c.index-number.result.now ≡ slice_index numbers place = c.index-number.ensures ∙ get_or_default numbers place _ 0 inside in
    let added : c.len.result ≡ length counted.added = omega (arith, c.len.ensures, c.counted.inside.added.ok.0, ap (λ (v : CountedView). length v.added) c.counted.view_is) in
    project_filled grain e counted numbers place are c.requires.known _ reason _ _ number added _ c.ending_with-ending.ensures
