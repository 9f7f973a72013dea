-- The outcome of a count.
use Rattle.std.specs.Prelude.{ℕ, List}
use Rattle.pb_rounds.specs.Run.{ElectedView, RunView}

-- what contracts see of an outcome
pub record OutcomeView : Type 0 where
  pub share : ℕ
  pub raised : ℕ
  pub elected : List ElectedView
  pub rests : List ℕ
  pub priced : List ℕ

-- what a run settles of an outcome: all but how many prices were computed
pub record Settled : Type 0 where
  pub share : ℕ
  pub raised : ℕ
  pub elected : List ElectedView
  pub rests : List ℕ

abbrev pub settled : OutcomeView → Settled
settled o = record { share = o.share; raised = o.raised; elected = o.elected; rests = o.rests }

-- the run at this share, after this many raises, as an outcome
abbrev pub settled_by : ℕ → ℕ → RunView → Settled
settled_by share raised run =
    record { share = share; raised = raised; elected = run.elected; rests = run.rests }
