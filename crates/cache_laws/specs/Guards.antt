pub mod Covers
pub mod GuardLaw
pub mod Answered
pub mod OwnershipKeys
pub mod OwnerEvents
