-- The words that public contracts reach, a notion a file.
pub mod Reading
pub mod Writing
pub mod ExactText
pub mod Tables
pub mod Numbers
pub mod Inner
