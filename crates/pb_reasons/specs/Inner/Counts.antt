-- What a count comes to, whatever its rule; private contracts speak of it.
use Rattle.std.specs.Prelude.{◌≡◌, ℕ, List}
use Rattle.pb_core.specs.Election.{ElectionView}
use Rattle.pb_rounds.specs.Counted.{IsCountOf}
use Rattle.pb_rounds.specs.Outcome.{OutcomeView}
use Rattle.pb_rounds.specs.declared.options.CountOptions.{CountOptions}
use Rattle.pb_rounds.specs.declared.rule.FillUp.{FillUp}
use Rattle.pb_reasons.specs.Counted.{CountedView, counted}

-- a count of the election, by some rule, comes to this
abbrev pub IsCounted : ElectionView → CountedView → Type 0
IsCounted e c = (options : CountOptions) × IsCountOf e options c.outcome × (c ≡ counted e c.fill_up c.outcome)

-- what is added to the elected of an outcome
abbrev pub added_to : ElectionView → FillUp → OutcomeView → List ℕ
added_to e fill_up o = (counted e fill_up o).added
