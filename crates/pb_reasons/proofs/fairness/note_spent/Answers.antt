use Rattle.std.proofs.Common.{◌≡◌, ◌<◌, ◌∙◌, ℕ, ap, arith, get_or, length, max, refl, set, sym}
use Rattle.std.specs.Prelude.{slice_index}
use Rattle.std.proofs.lemmas.List.{get_or_read}
use Rattle.pb_price.specs.Supporters.{support_in}
use Rattle.pb_reasons.specs.Counted.{winners_of}
use Rattle.pb_reasons.specs.Inner.Spending.{within_need}
use Rattle.pb_reasons.proofs.Spendings.{most_kept, most_noted}
use Rattle.pb_reasons.proofs.fairness.note_spent.Goals.{then-not-has_won, else-not-has_won}
use Rattle.pb_reasons.proofs.fairness.note_spent.Goals as goal

pub loop-place-preserved : goal.loop-place-preserved
loop-place-preserved c =
    let k = c.args.count.now in
    let most = c.loop-place.most.items in
    let ballot = c.args.ballot.now in
    let i = c.loop-place.place-index in
    let place = get_or ballot i 0 in
    let spent_by : ℕ → ℕ = λ place. within_need k.rule.options.measure (support_in k.rule.options.grain k.election) place c.args.payments.now in
    let known : place < length most = omega (arith, c.loop-place.invariant.same_length, c.requires.one_each, c.requires.ballot i 0 c.loop-place-test.true) in
    elim c.if-not-has_won.branch [
      | then-not-has_won w ↦
          let lost = sym c.has_won.ensures ∙ w.if-not-has_won.true in
          let read = get_or_read most place w.index_mut-most.result.now known w.index_mut-most.ensures.value 0 in
          let value : w.max.result ≡ max (slice_index most place) (spent_by place) =
          w.max.ensures ∙ ap (λ n. max n w.within_need-spent.result) read ∙ ap (max (slice_index most place)) w.within_need-spent.ensures in
          rw w.most-is (most_noted (winners_of k.counted) spent_by ballot c.args.most.now.items most i place c.loop-place-test.true refl c.loop-place.invariant _ known lost (ap (set most place) value))
      | else-not-has_won w ↦
          let won = sym c.has_won.ensures ∙ w.if-not-has_won.false in
          rw w.most-is (most_kept (winners_of k.counted) spent_by ballot c.args.most.now.items most i place c.loop-place-test.true refl c.loop-place.invariant won)
    ]
