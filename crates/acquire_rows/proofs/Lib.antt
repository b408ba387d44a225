pub mod Marking
pub mod Firsts
