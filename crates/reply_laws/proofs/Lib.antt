pub mod Before
pub mod Events
pub mod Heard
pub mod Answered
pub mod Sources
pub mod Given
pub mod Lasting
pub mod Naming
