pub mod RequestLaws
pub mod AnswerLaws
pub mod WatchLaws
pub mod LineLaws
pub mod ItemLaws
pub mod Feeds
