-- The lemmas that the proofs of this crate share.
pub mod Tidy
pub mod Pieces
pub mod KeptFields
pub mod NewColumns
pub mod KeysBehind
pub mod Headers
pub mod Metas
pub mod Projects
pub mod Votes
pub mod Words
pub mod Stands
pub mod Grown
pub mod OfFile
pub mod VoteText
