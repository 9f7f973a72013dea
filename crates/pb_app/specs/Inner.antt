-- Words that only private contracts speak of: nobody has to believe them.
pub mod Page
