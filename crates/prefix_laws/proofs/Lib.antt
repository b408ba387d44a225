pub mod Turning
pub mod Prefixes
pub mod Fetched
pub mod Told
pub mod Places
pub mod Idle
pub mod Lines
pub mod Shared
