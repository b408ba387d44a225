pub mod EventLemmas
pub mod CompareLemmas
