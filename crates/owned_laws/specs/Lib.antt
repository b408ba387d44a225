pub mod Watched
pub mod OwnWrites
pub mod Owned
pub mod Caches
pub mod Worked
pub mod WorkedWrites
