-- The words that public contracts reach, a notion a file.
pub mod Report
pub mod Tables
pub mod Ends
pub mod Audited
pub mod Ballots
pub mod Beside
pub mod Decided
pub mod DeskRun
pub mod Checked
pub mod Closed
pub mod Exported
pub mod History
pub mod WhatIf
pub mod Losers
pub mod AllTies
pub mod Inner
