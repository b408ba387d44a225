pub mod Ends
pub mod Tickets
