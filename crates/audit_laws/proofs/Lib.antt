pub mod Splits
pub mod Kept
pub mod PlainReads
pub mod Snapshots
pub mod Taken
pub mod Truths
