pub mod Sends
pub mod Laws
