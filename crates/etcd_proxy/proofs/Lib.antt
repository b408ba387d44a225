pub mod Complete
pub mod Generated
pub mod Lines
pub mod Started
pub mod AuditEndings
pub mod Stored
pub mod Explanations
