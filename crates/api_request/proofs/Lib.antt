pub mod NoFloats
pub mod Operations
pub mod PlainRequests
pub mod PlainWatches
