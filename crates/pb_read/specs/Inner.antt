-- Words that only private contracts and the invariants of private fields speak of: nobody has to believe
-- them.
pub mod Checking
pub mod Drafts
pub mod Fields
pub mod Forms
pub mod Ids
pub mod Machine
pub mod MoneyKinds
pub mod Opening
pub mod Positions
pub mod Progresses
pub mod Showing
pub mod Tracking
