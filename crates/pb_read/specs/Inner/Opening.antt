-- Before META is read; private contracts and proofs speak of it.
use Rattle.std.specs.Prelude.{None}
use Rattle.pb_core.specs.Election.{ElectionView}
use Rattle.pb_core.specs.Inner.Terms.{opening}
use Rattle.pb_core.specs.declared.terms.Terms.{Terms}

-- neither a budget nor a limit is known yet
abbrev pub no_terms : Terms
no_terms = record { budget = 0; max_length = None }

-- and there is an election without anything
abbrev pub empty : ElectionView
empty = opening no_terms
