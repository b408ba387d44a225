pub mod Quiet
pub mod Pushing
pub mod TrueAnswers
pub mod Watches
pub mod Lines
pub mod Counting
pub mod Effects
