-- The words that public contracts reach, a notion a file.
pub mod DeskRow
pub mod Durable
pub mod Fault
