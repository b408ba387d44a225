pub mod Passes
pub mod Fitting
pub mod Joined
