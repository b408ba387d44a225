pub mod Rows
pub mod Laws
pub mod Notices
pub mod Endings
pub mod Sendings
