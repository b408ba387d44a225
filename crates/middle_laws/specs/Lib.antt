pub mod Seen
pub mod Cached
pub mod Laws
