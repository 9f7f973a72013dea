-- The lemmas that the proofs of this crate share.
pub mod RowsGrown
pub mod ReportSums
pub mod Closings
pub mod Accepted
pub mod Endings
pub mod InputEnds
pub mod CountEnds
pub mod RunEnds
mod ExportEnds
mod AuditEnds
pub mod AuditAccepted
mod ThreeVoters
pub mod DeskRuns
pub mod Recounts
pub mod TablesTell
mod EndingWords
mod MemoryTold
mod VoterWords
mod FilePlaces
mod ExactWords
pub mod TableColumns
pub mod PaymentsInFile
pub mod PaymentsText
mod FrontsWritten
pub mod CheckedAgainst
pub mod BallotsRuns
pub mod LastGiven
pub mod BallotsOnce
pub mod GivenBallots
pub mod Histories
pub mod BallotRows
pub mod IdsText
mod Exports
pub mod WhatIfRows
pub mod TiesEnds
mod UnitTexts
pub mod BesideEnds
pub mod DecidedEnds
