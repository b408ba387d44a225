pub mod Strings
pub mod Tokens
pub mod Values
pub mod Decoded
pub mod Fields
pub mod Requests
