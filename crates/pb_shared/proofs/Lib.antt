-- The lemmas that the proofs of this crate share.
pub mod Told
pub mod Moves
pub mod LockSteps
pub mod SeatSteps
pub mod Offers
pub mod Calls
pub mod Finishes
