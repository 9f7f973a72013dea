-- The words that public contracts reach, a notion a file.
pub mod Content
pub mod Page
pub mod Markup
pub mod Words
pub mod Amount
pub mod Inner
