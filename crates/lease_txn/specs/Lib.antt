pub mod Results
pub mod Writes
