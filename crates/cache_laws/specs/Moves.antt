pub mod View
pub mod Invariant
pub mod StoreMoves
pub mod Sends
pub mod Answers
pub mod Sessions
pub mod Truth
