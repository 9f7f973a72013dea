-- The words that public contracts reach, a notion a file.
pub mod Columns
pub mod Faults
pub mod FirstFault
pub mod Kinds
pub mod Lengths
pub mod Listed
pub mod MetaKeys
pub mod MetaRows
pub mod Stages
pub mod Refusals
pub mod Rows
pub mod Shown
pub mod StandsFor
pub mod Voting
pub mod Inner
