pub mod Replay
pub mod Replays
pub mod Script
pub mod Reads
