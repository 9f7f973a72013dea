-- The lemmas that the proofs of this crate share.
mod ExactText
mod NumberFacts
mod OnlyThese
pub mod PlacesText
mod RecordFacts
pub mod RecordsRead
pub mod RoundTrip
mod RowTrip
pub mod RowsText
