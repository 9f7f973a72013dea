-- The words that public contracts reach, a notion a file.
pub mod Export
pub mod FileRows
pub mod Inner
