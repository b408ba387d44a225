pub mod LeaseLemmas
pub mod Showing
pub mod WriteSteps
pub mod OwnerSteps
pub mod ReadSteps
pub mod LeaseProofs
pub mod CachedProofs
pub mod ToldProofs
