-- Words that only private contracts and the invariants of private fields speak of: nobody has to believe
-- them.
pub mod Reading
pub mod Writing
pub mod Numbers
