pub mod MadeRecords
pub mod TestedKeys
pub mod Sound
pub mod Leases
pub mod Compactions
pub mod Lives
