use Rattle.std.proofs.Common.{Bool, Result, refl, subst, sym}
use Rattle.std.specs.Prelude.{IfOk}
use Rattle.pb_core.specs.declared.no_memory.NoMemory.{NoMemory}
use Rattle.pb_reasons.specs.WhatIf.{IsWhatIf, Says, Seen, seen}
use Rattle.pb_reasons.specs.declared.changes.found.WhatIf.{WhatIf}
use Rattle.pb_reasons.specs.Inner.Searching.{AreKnown, verdict_of}
use Rattle.pb_reasons.specs.declared.changes.change.Verdict.TheVariants.{Lost, Won}
use Rattle.pb_reasons.proofs.Ranges.{lost_found, won_found}
use Rattle.pb_reasons.proofs.changes.answer.searched.Goals as goal
use Rattle.pb_reasons.proofs.changes.answer.searched.Goals.{then-won, else-won}

pub winner-found-requires-clause-won : goal.winner-found-requires-clause-won
winner-found-requires-clause-won g c κs within =
    let q = c.args.recount.now.question in
    subst (λ (s : Seen). AreKnown s q c.args.cost Won) (sym c.in_ok-changing.ensures)
    (subst (λ (b : Bool). AreKnown (seen c.args.election) q c.args.cost (verdict_of b)) c.if-won.true c.requires.said.known)

pub loser-found-requires-clause-lost : goal.loser-found-requires-clause-lost
loser-found-requires-clause-lost g c κs within =
    let q = c.args.recount.now.question in
    subst (λ (s : Seen). AreKnown s q c.args.cost Lost) (sym c.in_ok-changing.ensures)
    (subst (λ (b : Bool). AreKnown (seen c.args.election) q c.args.cost (verdict_of b)) c.if-won.false c.requires.said.known)

pub returns : goal.returns
returns g c =
    let e = c.args.election in
    let q = c.args.recount.now.question in
    let cost = c.args.cost in
    record {
      found = elim c.if-won.branch [
        | then-won w ↦
            subst (λ (r : Result WhatIf NoMemory). IfOk r (IsWhatIf e q cost)) (sym w.found-is)
            (won_found e q c.in_ok-changing.changing cost cost w.winner-found.result c.in_ok-changing.ensures refl
            (subst (λ (b : Bool). Says e q (verdict_of b)) w.if-won.true c.requires.said.says) w.winner-found.ensures.cost w.winner-found.ensures.voters)
        | else-won w ↦
            subst (λ (r : Result WhatIf NoMemory). IfOk r (IsWhatIf e q cost)) (sym w.found-is)
            (lost_found e q c.in_ok-changing.changing cost cost w.loser-found.result c.in_ok-changing.ensures refl
            (subst (λ (b : Bool). Says e q (verdict_of b)) w.if-won.false c.requires.said.says) w.loser-found.ensures.cost w.loser-found.ensures.voters w.loser-found.ensures.doubled)
      ];
    }
