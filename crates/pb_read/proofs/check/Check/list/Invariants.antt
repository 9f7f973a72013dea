use Rattle.std.specs.Prelude.{◌≡◌, ◌<◌, ◌≤◌, ◌+◌, length, None, IfSome}
use Rattle.pb_read.specs.Inner.Checking.{AreBlamed, IsGoing}
use Rattle.pb_read.specs.Inner.Progresses.{IsReady, place_of}
use Rattle.pb_read.specs.Inner.Showing.{Shows}
use Rattle.pb_read.specs.Listed.{AreListed}
use Rattle.pb_read.proofs.check.Check.list.Given as goal

abbrev pub invariant-loop-left_out : goal.invariant-loop-left_out
invariant-loop-left_out g l = record {
  going : l.left_out < 1000 → IsGoing l.fn.records.left l.records.left (l.kept + l.left_out) l.faults.items (place_of l.self.progress);
  listed : l.left_out ≡ 1000 → IfSome l.fn.records.left (λ all. AreListed 0 all l.faults.items);
  ready : IsReady l.self.progress;
  count : length l.faults.items ≡ l.left_out;
  few : l.kept ≤ 2000000;
  shows : Shows l.fn.records.left l.records.left (l.kept + l.left_out) l.faults.items (place_of l.self.progress) (g.W.Watch.shown l.fn.watch) (g.W.Watch.shown l.watch);
  runs : l.fn.records.fault ≡ None → l.records.fault ≡ None;
  blamed : l.fn.records.fault ≡ None → AreBlamed None l.faults.items;
}
