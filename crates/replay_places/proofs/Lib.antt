pub mod Fetching
pub mod Greatest
pub mod PlaceSteps
pub mod Turns
