pub mod Executed
pub mod Standing
pub mod Laws
