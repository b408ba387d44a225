pub mod Growing
pub mod Taking
pub mod Turns
pub mod ItemTexts
pub mod Complete
