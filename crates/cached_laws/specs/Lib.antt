pub mod Untouched
pub mod Awaited
pub mod Laws
pub mod Folds
pub mod Streams
pub mod NewKeys
pub mod Reads
