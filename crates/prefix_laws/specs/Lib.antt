pub mod Comes
pub mod Prefixes
pub mod Idle
pub mod Lines
pub mod Shared
