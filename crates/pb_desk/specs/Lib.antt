-- The words that public contracts reach, a notion a file.
pub mod Desk
pub mod Replay
pub mod Rows
pub mod RowFlaw
pub mod Standing
pub mod Step
pub mod Audit
pub mod AuditFault
pub mod Opening
pub mod Inner
