use Rattle.std.proofs.Common.{◌∷◌, [], ◌<◌, ◌∙◌, ap, decimal, length, length-append, refl, sym, arith, rules}
use Rattle.std.proofs.lemmas.List.{length-map, length-replicate}
use Rattle.pb_core.specs.Election.{VoterView, most_voters}
use Rattle.pb_reasons.proofs.NumberedIds.{further_more, number_is_id, one_rises}
use Rattle.pb_reasons.proofs.changes.numbered.add_further.Goals as goal

pub loop-further-preserved : goal.loop-further-preserved
loop-further-preserved c =
    let before = c.loop-further.invariant in
    let before_it = c.loop-further.voters.items in
    let v : VoterView = record { id = decimal (length before_it); ballot = c.in_ok-ballot.ballot } in
    let many = length-append c.args.voters.now.items before.more in
    let further = sym (length-map before.more (λ (w : VoterView). w.ballot)) ∙ ap length before.alone ∙ length-replicate c.loop-further._further (c.args.place ∷ []) in
    let room : length before_it < most_voters = omega (arith, ap length before.grown, many, further, c.requires.few, c.loop-further-test.true) in
    let made = further_more c.args.projects c.args.place c.loop-further._further c.args.voters.now.items before_it c.add_numbered.new.voters.items before.more v before.numbered before.grown
    before.alone (search rules) room c.requires.known (number_is_id (length before_it) (omega (arith, room))) refl (c.in_ok-ballot.ensures.in_order (one_rises c.args.place)) in
    record { numbered = made.0; more = _; grown = made.1; alone = made.2 }
