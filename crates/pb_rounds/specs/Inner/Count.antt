-- When a completion by raises is refused.
use Rattle.std.specs.Prelude.{◌≡◌, None, ℕ}
use Rattle.pb_core.specs.Election.{ElectionView}
use Rattle.pb_price.specs.declared.grain.Grain.{Grain}
use Rattle.pb_rounds.specs.declared.count_fault.CountFault.{CountFault}
use Rattle.pb_rounds.specs.declared.count_fault.CountFault.TheVariants.{WorkerCount, StepRange, RaisesRange}
use Rattle.pb_rounds.specs.declared.count_fault.CountFault.TheVariants.{RaisesSpent, NoMemory, TooFine}
use Rattle.pb_rounds.specs.declared.measure.Measure.{Measure}
use Rattle.pb_rounds.specs.Count.{add1_of}

-- when each fault of a completion by raises comes
abbrev pub IsCompletionFault : Measure → Grain → ElectionView → ℕ → ℕ → CountFault → Type 0
IsCompletionFault m grain e step limit WorkerCount = ⊥
IsCompletionFault m grain e step limit StepRange = ⊥
IsCompletionFault m grain e step limit RaisesRange = ⊥
IsCompletionFault m grain e step limit RaisesSpent = add1_of m grain e step limit ≡ None
IsCompletionFault m grain e step limit NoMemory = Unit {0}
IsCompletionFault m grain e step limit TooFine = ⊥
