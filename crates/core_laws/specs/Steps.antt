pub mod Laws
pub mod Outcomes
pub mod Kept
pub mod Staying
