pub mod Endings
pub mod Laws
pub mod Progress
pub mod Script
pub mod Transcript
