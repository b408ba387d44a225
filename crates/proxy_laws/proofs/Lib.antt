pub mod Fit
pub mod OneKey
pub mod Owners
pub mod Ran
pub mod SnapshotProofs
pub mod Split
pub mod Told
