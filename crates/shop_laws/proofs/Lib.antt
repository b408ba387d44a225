pub mod Timed
pub mod TimedSteps
pub mod Watches
