pub mod Requests
pub mod Ranges
pub mod NamedKeys
pub mod Branches
pub mod Answered
