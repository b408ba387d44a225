pub mod LeaseLemmas
pub mod MemberLemmas
pub mod PushLemmas
pub mod RunProofs
pub mod RunSteps
pub mod Stores
pub mod VisibleEvents
pub mod VisibleReads
