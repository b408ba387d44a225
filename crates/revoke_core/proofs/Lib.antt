pub mod Passing
pub mod Proper
mod Resting
pub mod Searches
pub mod LossParts
pub mod NoticeParts
pub mod SendParts
pub mod AnswerParts
pub mod ReadParts
pub mod Ranges
pub mod Keeping
