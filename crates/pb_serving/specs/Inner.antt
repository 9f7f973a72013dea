-- Words that only private contracts and the invariants of private fields speak of: nobody has to believe
-- them.
pub mod Admitted
pub mod Batch
pub mod Durable
pub mod Refused
pub mod Rows
pub mod Room
pub mod AtHand
