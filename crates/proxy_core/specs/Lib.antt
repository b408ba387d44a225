pub mod Calls
pub mod Happening
pub mod Faults
pub mod Figures
