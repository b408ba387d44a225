pub mod NumberedLaws
pub mod Places
pub mod Rows
