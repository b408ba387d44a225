pub mod Alone
pub mod Calls
pub mod Closings
pub mod Items
pub mod Joins
pub mod Laws
pub mod Truths
pub mod Worked
