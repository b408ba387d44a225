pub mod Kept
pub mod Leases
