pub mod Steps
pub mod Watching
pub mod Dialog
pub mod Exchanges
