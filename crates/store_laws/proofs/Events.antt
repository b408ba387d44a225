pub mod Messages
pub mod EventProofs
pub mod WatchProofs
pub mod LeavingProofs
pub mod PreviousProofs
