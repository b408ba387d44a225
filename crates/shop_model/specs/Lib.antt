pub mod Deadlines
pub mod Shop
pub mod Steps
pub mod Timed
pub mod Worked
pub mod WorkedWatches
