-- The lemmas that the proofs of this crate share.
pub mod PlacesTexts
pub mod OneRequest
mod EntryCounting
mod OpenToAll
pub mod Rising
pub mod Rolls
pub mod ScriptForms
pub mod Scripts
pub mod Servings
pub mod Rooms
pub mod DeskEntries
pub mod Texts
pub mod VotersNoted
