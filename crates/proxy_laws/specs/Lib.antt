pub mod Answers
pub mod Ownership
pub mod Split
