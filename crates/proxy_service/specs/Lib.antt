pub mod Announced
pub mod Parts
pub mod Serving
pub mod Told
pub mod Service
