pub mod Refused
pub mod Texts
pub mod Audits
pub mod Lines
pub mod Reading
