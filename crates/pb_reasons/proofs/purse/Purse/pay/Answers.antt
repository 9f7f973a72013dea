use Rattle.pb_reasons.proofs.Due.{are_due, has_paid}
use Rattle.pb_reasons.proofs.purse.Purse.pay.Goals as goal

pub pay_due-requires-clause-known : goal.pay_due-requires-clause-known
pay_due-requires-clause-known c =
    let due = are_due c.args.elected.now c.args.rounds.now c.args.ballot.now c.gather.new.due.items c.requires.numbered c.requires.apart c.requires.known c.in_ok-gather.ensures.rise c.in_ok-gather.ensures.members in
    rw c.as_slice.ensures.value due.known

pub returns-clause-paid : goal.returns-clause-paid
returns-clause-paid c =
    let due = are_due c.args.elected.now c.args.rounds.now c.args.ballot.now c.gather.new.due.items c.requires.numbered c.requires.apart c.requires.known c.in_ok-gather.ensures.rise c.in_ok-gather.ensures.members in
    let paid = c.pay_due.ensures.paid c.args.ballot.now (rw c.as_slice.ensures.value due) in
    has_paid c.args.elected.now c.args.rounds.now c.args.ballot.now c.gather.new.due.items c.requires.numbered c.requires.apart c.requires.known c.in_ok-gather.ensures.rise c.in_ok-gather.ensures.members
    c.args.share c.pay_due.new.amounts.items (rw c.as_slice.ensures.value at paid)
