-- Words that only private contracts and the invariants of private fields speak of: nobody has to believe
-- them.
pub mod AllTies
pub mod Comparing
pub mod Counts
pub mod Kept
pub mod Losers
pub mod Money
pub mod Numbers
pub mod OfOutcome
pub mod Raises
pub mod Replay
pub mod Rounds
pub mod Strides
pub mod TieQueue
pub mod Told
pub mod Turns
pub mod Numbered
pub mod Searching
pub mod Spending
pub mod Doubling
