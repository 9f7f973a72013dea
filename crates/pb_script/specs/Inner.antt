-- Words that only private contracts and the invariants of private fields speak of: nobody has to believe
-- them.
pub mod Admission
pub mod Roll
pub mod Script
pub mod ScriptReading
pub mod Serving
