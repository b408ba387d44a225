pub mod Uneven
