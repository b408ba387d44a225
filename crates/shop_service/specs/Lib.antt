pub mod Serving
pub mod Told
pub mod Service
