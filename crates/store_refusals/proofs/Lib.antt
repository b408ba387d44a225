pub mod OfTransactions
