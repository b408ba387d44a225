pub mod Falls
pub mod Free
pub mod Readers
