pub mod Fates
pub mod Dues
pub mod Jobs
pub mod Messages
pub mod Ends
pub mod Failed
