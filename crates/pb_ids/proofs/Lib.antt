-- The lemmas that the proofs of this crate share.
pub mod CrowdFacts
pub mod KeptFacts
pub mod TableFacts
