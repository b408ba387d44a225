pub mod Keeping
pub mod Does
pub mod Replies
pub mod Callers
pub mod Answers
pub mod Items
pub mod Leasing
