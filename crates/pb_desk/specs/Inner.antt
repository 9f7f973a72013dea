-- Words that only private contracts and the invariants of private fields speak of: nobody has to believe
-- them.
pub mod AuditSteps
pub mod Desk
pub mod Legal
pub mod RowFlaw
pub mod RowReading
pub mod Slots
pub mod Sources
pub mod Step
pub mod Ballots
pub mod Opening
