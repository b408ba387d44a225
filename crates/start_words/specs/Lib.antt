pub mod Further
pub mod Reads
pub mod Start
pub mod Texts
pub mod Values
