pub mod TransactionLemmas
pub mod RefusalLemmas
pub mod WatchLemmas
pub mod StepLemmas
pub mod HistoryLemmas
pub mod RunLemmas
pub mod RangeLemmas
