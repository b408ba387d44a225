pub mod Bools
pub mod Tables
pub mod Covering
