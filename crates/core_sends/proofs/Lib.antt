pub mod Firsts
pub mod Works
