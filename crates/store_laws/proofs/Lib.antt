pub mod Requests
pub mod Lives
pub mod Events
