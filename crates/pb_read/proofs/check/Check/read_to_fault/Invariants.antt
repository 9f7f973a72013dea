use Rattle.std.specs.Prelude.{◌≡◌, ◌≤◌, ◌+◌, List, Option, None, length}
use Rattle.pb_rows.specs.Reading.{Fields}
use Rattle.pb_read.specs.Inner.Checking.{IsGoing}
use Rattle.pb_read.specs.Inner.Progresses.{IsReady, place_of}
use Rattle.pb_read.specs.Inner.Showing.{Shows}
use Rattle.pb_read.specs.Shown.{Sight}
use Rattle.pb_read.specs.declared.fault.ReadFault.{ReadFault}
use Rattle.pb_read.proofs.check.Check.read_to_fault.Given as goal

abbrev pub invariant-loop-before : goal.invariant-loop-before
invariant-loop-before g l = record {
  ready : IsReady l.self.progress;
  few : l.before ≤ 2000000;
  going : (all : Option (List Fields)) (faults : List ReadFault) → length faults ≡ l.fn.left_out → IsGoing all l.fn.records.left (l.fn.kept + l.fn.left_out) faults (place_of l.fn.self.progress) → IsGoing all l.records.left (l.before + l.fn.left_out) faults (place_of l.self.progress);
  shows : (all : Option (List Fields)) (faults : List ReadFault) (first : Option (List Sight)) → Shows all l.fn.records.left (l.fn.kept + l.fn.left_out) faults (place_of l.fn.self.progress) first (g.W.Watch.shown l.fn.watch) → Shows all l.records.left (l.before + l.fn.left_out) faults (place_of l.self.progress) first (g.W.Watch.shown l.watch);
  goes_on : l.fn.records.fault ≡ None → l.records.fault ≡ None;
}
