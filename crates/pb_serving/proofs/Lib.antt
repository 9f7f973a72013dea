-- The lemmas that the proofs of this crate share.
mod Answering
mod Apart
mod Batches
mod Causes
mod CutOff
mod Handing
mod Refusals
mod Standings
mod Unanswered
