use Rattle.std.proofs.Common.{take}
use Rattle.pb_price.specs.Supporters.{support_in}
use Rattle.pb_reasons.specs.Counted.{winners_of}
use Rattle.pb_reasons.specs.Inner.Spending.{NotesSpent, within_need}
use Rattle.pb_reasons.proofs.fairness.note_spent.Given as goal

abbrev pub invariant-loop-place : goal.invariant-loop-place
invariant-loop-place l = NotesSpent (winners_of l.count.counted)
    (λ place. within_need l.count.rule.options.measure (support_in l.count.rule.options.grain l.count.election) place l.payments)
    (take l.place-index l.ballot) l.initial.most.items l.most.items
