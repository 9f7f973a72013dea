-- Words that only private contracts and the invariants of private fields speak of: nobody has to believe
-- them.
pub mod Ids
pub mod Terms
pub mod Approved
pub mod Order
