-- Words that only private contracts and the invariants of private fields speak of: nobody has to believe
-- them.
pub mod Claims
pub mod Lists
pub mod Payment
pub mod Support
pub mod Working
