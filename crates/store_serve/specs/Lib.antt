pub mod Missing
pub mod Homes
