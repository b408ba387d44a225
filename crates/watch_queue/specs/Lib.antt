pub mod Entering
pub mod Fates
pub mod Heads
pub mod Leaving
pub mod Queued
pub mod Shared
pub mod Shares
pub mod Watching
