pub mod WatchRuns
pub mod Previous
