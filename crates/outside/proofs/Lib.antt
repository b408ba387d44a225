pub mod MemoryReads
pub mod Results
pub mod Writes
