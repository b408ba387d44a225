pub mod Tallies
pub mod Summaries
