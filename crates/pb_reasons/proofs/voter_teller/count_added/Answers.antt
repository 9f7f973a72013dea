use Rattle.std.proofs.Common.{get_or, length-take-le, take, arith}
use Rattle.std.specs.Prelude.{nat_lt, slice_index}
use Rattle.std.proofs.lemmas.Bool.{le-ltb, lt-ltb}
use Rattle.std.proofs.lemmas.List.Sums.{count_by-le-length, count_by_more_no, count_by_more_yes}
use Rattle.pb_reasons.proofs.voter_teller.count_added.Goals.{then-number-added, else-number-added}
use Rattle.pb_reasons.proofs.voter_teller.count_added.Goals as goal

pub loop-place-preserved : goal.loop-place-preserved
loop-place-preserved c =
    let numbers = c.args.numbers.now in
    let ballot = c.args.ballot.now in
    let i = c.loop-place.place-index in
    let place = get_or ballot i 0 in
    let added = c.args.added in
    elim c.if-number-added.branch [
      | then-number-added w ↦
          let more = count_by_more_yes (λ p. nat_lt (slice_index numbers p) added) ballot i 0 c.loop-place-test.true (lt-ltb (slice_index numbers place) added w.if-number-added.true) in
          rw w.count-is (omega (arith, more, c.loop-place.invariant))
      | else-number-added w ↦
          let same = count_by_more_no (λ p. nat_lt (slice_index numbers p) added) ballot i 0 c.loop-place-test.true (le-ltb (slice_index numbers place) added w.if-number-added.false) in
          rw w.count-is (omega (arith, same, c.loop-place.invariant))
    ]

pub overflow_add-count : goal.overflow_add-count
overflow_add-count c =
    let i = c.loop-place.place-index in
    let ballot = c.args.ballot.now in
    let few = count_by-le-length (λ place. nat_lt (slice_index c.args.numbers.now place) c.args.added) (take i ballot) in
    omega (arith, few, length-take-le i ballot c.loop-place.auto.place-index-end, c.loop-place.invariant, c.loop-place-test.true, c.requires.few)
