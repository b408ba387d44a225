pub mod Behind
pub mod Has
pub mod Ends
pub mod Events
