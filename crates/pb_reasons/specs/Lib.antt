-- The words that public contracts reach, a notion a file.
pub mod AllTies
pub mod BesideVotes
pub mod Comparison
pub mod Counted
pub mod CountedElection
pub mod Fairness
pub mod Losers
pub mod Money
pub mod RaiseEnd
pub mod RaiseLimit
pub mod Reasons
pub mod Ties
pub mod Totals
pub mod WhatIf
pub mod Inner
