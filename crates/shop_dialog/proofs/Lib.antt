pub mod Grown
pub mod Pushing
pub mod Replying
pub mod Serving
