-- Words that only private contracts speak of: nobody has to believe them.
pub mod Filling
pub mod Grown
pub mod Value
pub mod Counted
pub mod Decided
pub mod Contents
pub mod Digits
pub mod Nouns
pub mod Controls
