-- Words that only private contracts and the invariants of private fields speak of: nobody has to believe
-- them.
pub mod Desk
pub mod Plays
pub mod Rule
pub mod Seats
pub mod Newcomers
pub mod SharedView
pub mod Entries
pub mod AllClerks
pub mod ClerkFits
