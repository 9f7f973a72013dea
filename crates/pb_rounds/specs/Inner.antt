-- Words that only private contracts and the invariants of private fields speak of: nobody has to believe
-- them.
pub mod Between
pub mod Bounds
pub mod Cheapest
pub mod Count
pub mod Counted
pub mod Front
pub mod Key
pub mod KeyOrder
pub mod KeyRecord
pub mod Listed
pub mod PriceSystem
pub mod Progress
pub mod Queue
pub mod RaiseEnds
pub mod Reach
pub mod RuleNames
pub mod Threads
pub mod Tied
pub mod TieOrder
pub mod Candidates
pub mod Fairness
pub mod LeftAfter
