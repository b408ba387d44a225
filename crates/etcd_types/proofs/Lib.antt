pub mod Bools
pub mod KeyOrder
pub mod Overlaps
