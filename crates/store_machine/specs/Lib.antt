pub mod Order
pub mod Rows
pub mod Holding
pub mod Standing
