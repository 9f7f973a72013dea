-- The lemmas that the proofs of this crate share.
pub mod PageEnds
pub mod SameEnds
pub mod Telling
