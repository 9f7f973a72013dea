-- The words that public contracts reach, a notion a file.
pub mod Admission
pub mod EntryCounts
pub mod Scripts
pub mod ScriptFault
pub mod ScriptReading
pub mod RowsView
pub mod Serving
pub mod Served
pub mod Roll
pub mod Inner
