pub mod StoreView
pub mod CallSteps
pub mod LeaseSteps
pub mod CachedReads
pub mod ToldAnswers
