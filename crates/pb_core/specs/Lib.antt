-- The words that public contracts reach, a notion a file.
pub mod Ballot
pub mod Election
pub mod Money
pub mod MoneyText
pub mod Numbered
pub mod Order
pub mod Request
pub mod Inner
