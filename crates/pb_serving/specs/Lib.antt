-- The words that public contracts reach, a notion a file.
pub mod Answered
pub mod Inner
