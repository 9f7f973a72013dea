-- The words that only these tests speak of.
pub mod Inner
