-- The words that contracts speak of.
pub mod Inner
