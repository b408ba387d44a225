pub mod Lists
pub mod Records
pub mod Bodies
pub mod Answers
pub mod Messages
pub mod Laws
