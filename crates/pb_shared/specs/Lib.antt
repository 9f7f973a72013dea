-- The words that public contracts reach, a notion a file.
pub mod Clerk
pub mod Refusal
pub mod Rule
pub mod Seats
pub mod Steps
pub mod Inner
