pub mod Grounds
pub mod Clocked
pub mod Decided
pub mod Snapshots
pub mod Replies
pub mod Shown
