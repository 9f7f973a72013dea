use Rattle.std.proofs.Common.{take}
use Rattle.pb_rounds.specs.Inner.Queue.{PutsBack}
use Rattle.pb_rounds.proofs.queue.put_back.Given as goal

abbrev pub invariant-loop-key : goal.invariant-loop-key
invariant-loop-key g l = PutsBack l.place (take l.key-index l.fresh) l.fn.queue.keys l.queue.keys
