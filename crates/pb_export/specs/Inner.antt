-- Words that only private contracts and the invariants of private fields speak of: nobody has to believe
-- them.
pub mod Behind
pub mod Carried
pub mod Growing
pub mod Parts
