pub mod Runs
pub mod Touches
mod Waiting
pub mod Alone
pub mod Lasting
pub mod Bounded
pub mod Holding
