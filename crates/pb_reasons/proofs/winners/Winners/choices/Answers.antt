use Rattle.std.proofs.Common.{◌<◌, ◌∙◌, get_or, length, arith}
use Rattle.std.proofs.lemmas.List.Sums.{count_by_more_no, count_by_more_yes}
use Rattle.pb_rounds.specs.MostVotes.{is_taken}
use Rattle.pb_reasons.proofs.Comparing.{flag_tells}
use Rattle.pb_reasons.proofs.winners.Winners.choices.Goals.{then-index, else-index}
use Rattle.pb_reasons.proofs.winners.Winners.choices.Goals as goal

pub loop-place-preserved : goal.loop-place-preserved
loop-place-preserved c =
    let e = c.self.inside.election.now in
    let winners = c.self.inside.places.now in
    let ballot = c.args.ballot.now in
    let i = c.loop-place.place-index in
    let place = get_or ballot i 0 in
    let known : place < length e.projects = rw (← c.self.view_is) at (c.requires.known i 0 c.loop-place-test.true) in
    let flag = flag_tells (length e.projects) winners c.self.inside.flags.items place c.index.result.now c.self.invariant known c.index.ensures in
    let h = c.loop-place.invariant in
    elim c.if-index.branch [
      | then-index w ↦
          let more = count_by_more_yes (is_taken winners) ballot i 0 c.loop-place-test.true (flag ∙ w.if-index.true) in
          rw w.choices-is (record { choices = omega (arith, more, h.choices); few = omega (arith, h.few) })
      | else-index w ↦
          let same = count_by_more_no (is_taken winners) ballot i 0 c.loop-place-test.true (flag ∙ w.if-index.false) in
          rw w.choices-is (record { choices = omega (arith, same, h.choices); few = omega (arith, h.few) })
    ]
