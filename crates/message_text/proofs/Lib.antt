pub mod AnswerLaws
pub mod Lists
pub mod RequestLaws
pub mod Rolled
pub mod WatchLaws
