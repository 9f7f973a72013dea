-- The terms of an election.
use Rattle.std.specs.Prelude.{[]}
use Rattle.pb_core.specs.Election.{ElectionView}
use Rattle.pb_core.specs.declared.terms.Terms.{Terms}

-- the terms of an election, and an election of such terms with neither projects nor voters yet
abbrev pub terms_of : ElectionView → Terms
terms_of e = record { budget = e.budget; max_length = e.max_length }

abbrev pub opening : Terms → ElectionView
opening terms = record { budget = terms.budget; max_length = terms.max_length; projects = []; voters = [] }
