-- Words that only private contracts and the invariants of private fields speak of: nobody has to believe
-- them.
pub mod AllTies
pub mod Audited
pub mod Ballots
pub mod Beside
pub mod Checked
pub mod DeskRun
pub mod Exporting
pub mod History
pub mod Inputs
pub mod Report
pub mod Tables
pub mod WhatIf
pub mod Outside
pub mod Written
