use Rattle.std.proofs.Common.{subst, sym, refl, ◌∙◌}
use Rattle.std.proofs.Common.{Global}
use Rattle.pb_core.specs.declared.voter_id.VoterId.{VoterId}
use Rattle.std.specs.Option.{IsSome}
use Rattle.pb_reasons.proofs.NumberedIds.{number_makes, some_same}
use Rattle.pb_reasons.proofs.changes.numbered.number_id.Goals as goal

pub unwrap-requires : goal.unwrap-requires
unwrap-requires c =
    let made = number_makes _ c.args.number c.format.result.now c.in_ok-id.id c.ranges.number.fits c.format.ensures.text c.in_ok-id.ensures in
    subst IsSome (sym made.1) refl

pub returns : goal.returns
returns c =
    let made = number_makes _ c.args.number c.format.result.now c.in_ok-id.id c.ranges.number.fits c.format.ensures.text c.in_ok-id.ensures in
    some_same _ (λ (id : VoterId Global). id) _ _ made.1 c.unwrap.ensures ∙ made.2
