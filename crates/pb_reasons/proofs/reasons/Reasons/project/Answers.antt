use Rattle.std.proofs.Common.{◌≡◌, ◌+◌, ◌<◌, ◌≤◌, length, get_or, subst, sym, ap, ◌∙◌, arith}
use Rattle.std.proofs.lemmas.List.{get_or_default}
use Rattle.pb_price.proofs.SupporterLists.{known_voters}
use Rattle.pb_price.specs.Supporters.{SupportView, cost_in_parts, support_of, supporters_at}
use Rattle.pb_rounds.specs.Outcome.{OutcomeView}
use Rattle.pb_rounds.specs.Run.{ElectedView}
use Rattle.pb_reasons.specs.Inner.Kept.{AreReasons}
use Rattle.pb_reasons.specs.declared.project_reason.Ending.TheVariants.{Won, Lost}
use Rattle.pb_reasons.proofs.Reasoned.{as_many_rounds, few_in_full, few_projects, few_support, has_place, project_lost, project_won, round_read, too_short}
use Rattle.pb_reasons.proofs.reasons.Reasons.project.Goals as goal
use Rattle.pb_reasons.proofs.reasons.Reasons.project.Goals.{then-round-len, else-round-len}

pub of-supporters-requires : goal.of-supporters-requires
of-supporters-requires c =
    let own = subst (AreReasons c.args.self.now.supporters.grain c.args.election.now c.args.outcome.now) (sym c.self.view_is) c.requires.own in
    has_place _ c.args.election.now c.args.outcome.now _ own c.args.place c.requires.known

pub index-winner-requires : goal.index-winner-requires
index-winner-requires c =
    let e = c.args.election.now in
    let o = c.args.outcome.now in
    let own = subst (AreReasons c.args.self.now.supporters.grain e o) (sym c.self.view_is) c.requires.own in
    let rounds = as_many_rounds _ e o _ own in
    omega (arith, c.if-round-len.true, c.len.ensures, c.self.inside.in_full.ok.0, rounds, ap (λ (v : OutcomeView). length v.elected) c.outcome.view_is, c.outcome.inside.elected.ok.0)

pub overflow_add-ending : goal.overflow_add-ending
overflow_add-ending c =
    let e = c.args.election.now in
    let o = c.args.outcome.now in
    let own = subst (AreReasons c.args.self.now.supporters.grain e o) (sym c.self.view_is) c.requires.own in
    let rounds = as_many_rounds _ e o _ own in
    let few = few_projects _ e o _ own c.of-supporters.ensures.is_support in
    omega (arith, c.if-round-len.true, c.len.ensures, c.self.inside.in_full.ok.0, rounds, few.0, c.requires.told.few)

pub overflow_cast-ending : goal.overflow_cast-ending
overflow_cast-ending c =
    let e = c.args.election.now in
    let o = c.args.outcome.now in
    let own = subst (AreReasons c.args.self.now.supporters.grain e o) (sym c.self.view_is) c.requires.own in
    let place = c.args.place in
    let rounds = as_many_rounds _ e o _ own in
    let round = round_read _ e o _ own place c.requires.known c.index-round.result.now _ c.index-round.ensures in
    let below : c.index-round.result.now < length o.elected = omega (arith, c.if-round-len.true, c.len.ensures, c.self.inside.in_full.ok.0, rounds) in
    let inside : c.index-round.result.now < length c.self.inside.in_full.items = omega (arith, c.if-round-len.true, c.len.ensures, c.self.inside.in_full.ok.0) in
    let winner = rw (ap (λ (v : OutcomeView). v.elected) c.outcome.view_is) at c.index-winner.ensures in
    let few = few_projects _ e o _ own c.of-supporters.ensures.is_support in
    let full = few_in_full _ e o _ own place c.requires.known c.of-supporters.ensures.is_support c.index-winner.result.now (winner ∙ ap (λ n. get_or o.elected n c.index-winner.result.now) round) (rw (← round) below) in
    let read = c.index.ensures ∙ get_or_default c.self.inside.in_full.items c.index-round.result.now _ 0 inside ∙ ap (λ n. get_or c.self.inside.in_full.items n 0) round in
    omega (arith, full, read, few.1)

pub lost-requires-clause-known : goal.lost-requires-clause-known
lost-requires-clause-known c =
    let e = c.args.election.now in
    let o = c.args.outcome.now in
    let own = subst (AreReasons c.args.self.now.supporters.grain e o) (sym c.self.view_is) c.requires.own in
    let rests : c.as_slice.result.now ≡ o.rests = c.as_slice.ensures.value ∙ ap (λ (v : OutcomeView). v.rests) c.outcome.view_is in
    known_voters _ c.of-supporters.ensures.is_support c.args.place (has_place _ e o _ own c.args.place c.requires.known) c.of-supporters.result.now c.as_slice.result.now c.of-supporters.ensures.supporters
    (ap length rests ∙ c.requires.told.one_each ∙ sym (ap (λ (s : SupportView). s.voters) own.supporters))

pub lost-requires-clause-short : goal.lost-requires-clause-short
lost-requires-clause-short c =
    let e = c.args.election.now in
    let o = c.args.outcome.now in
    let own = subst (AreReasons c.args.self.now.supporters.grain e o) (sym c.self.view_is) c.requires.own in
    let place = c.args.place in
    let rounds = as_many_rounds _ e o _ own in
    let round = round_read _ e o _ own place c.requires.known c.index-round.result.now _ c.index-round.ensures in
    let past : length o.elected ≤ c.index-round.result.now = omega (arith, c.if-round-len.false, c.len.ensures, c.self.inside.in_full.ok.0, rounds) in
    let short = too_short _ e o _ own place c.requires.known c.requires.told (rw (← round) past) in
    let supporters : c.of-supporters.result.now ≡ supporters_at (support_of e) place = c.of-supporters.ensures.supporters ∙ ap (λ s. supporters_at s place) own.supporters in
    let rests : c.as_slice.result.now ≡ o.rests = c.as_slice.ensures.value ∙ ap (λ (v : OutcomeView). v.rests) c.outcome.view_is in
    let cost = c.cost_in_parts-cost.ensures.cost ∙ ap (λ (s : SupportView). cost_in_parts s place) own.supporters in
    rw (supporters, rests, cost) short

pub overflow_cast-result : goal.overflow_cast-result
overflow_cast-result c =
    let e = c.args.election.now in
    let o = c.args.outcome.now in
    let own = subst (AreReasons c.args.self.now.supporters.grain e o) (sym c.self.view_is) c.requires.own in
    let supporters : c.of-supporters.result.now ≡ supporters_at (support_of e) c.args.place = c.of-supporters.ensures.supporters ∙ ap (λ s. supporters_at s c.args.place) own.supporters in
    let few = few_support _ e o _ own c.args.place c.requires.known c.of-supporters.ensures.is_support _ supporters in
    omega (arith, few, (few_projects _ e o _ own c.of-supporters.ensures.is_support).1)

pub returns : goal.returns
returns c =
    let e = c.args.election.now in
    let o = c.args.outcome.now in
    let own = subst (AreReasons c.args.self.now.supporters.grain e o) (sym c.self.view_is) c.requires.own in
    let place = c.args.place in
    let rounds = as_many_rounds _ e o _ own in
    let supporters : c.of-supporters.result.now ≡ supporters_at (support_of e) place = c.of-supporters.ensures.supporters ∙ ap (λ s. supporters_at s place) own.supporters in
    let round = round_read _ e o _ own place c.requires.known c.index-round.result.now _ c.index-round.ensures in
    elim c.if-round-len.branch [
      | then-round-len w ↦
          let below : c.index-round.result.now < length o.elected = omega (arith, w.if-round-len.true, c.len.ensures, c.self.inside.in_full.ok.0, rounds) in
          project_won _ e o _ own place c.requires.known c.index-round.result.now round below w.index-winner.result.now
          (rw (ap (λ (v : OutcomeView). v.elected) c.outcome.view_is) at w.index-winner.ensures)
          c.of-supporters.result.now _ _ supporters w.index.ensures _
          (w.ending-is ∙ ap (λ (v : ElectedView). Won (record { round = c.index-round.result.now + 1; price = v.price; exact = v.exact; collected = v.collected; in_full = w.index.result.now })) w.winner.view_is)
      | else-round-len w ↦
          let past : length o.elected ≤ c.index-round.result.now = omega (arith, w.if-round-len.false, c.len.ensures, c.self.inside.in_full.ok.0, rounds) in
          let rests : w.as_slice.result.now ≡ o.rests = w.as_slice.ensures.value ∙ ap (λ (v : OutcomeView). v.rests) c.outcome.view_is in
          let cost = w.cost_in_parts-cost.ensures.cost ∙ ap (λ (s : SupportView). cost_in_parts s place) own.supporters in
          project_lost _ e o _ own place c.requires.known c.index-round.result.now round past c.of-supporters.result.now w.as_slice.result.now _ supporters rests cost _ (w.ending-is ∙ ap Lost w.lost.ensures)
    ]
