pub mod Histories
pub mod LeaseLists
pub mod TestedProofs
pub mod SoundProofs
pub mod LeaseProofs
pub mod RecordLeases
pub mod CompactionProofs
pub mod LifeProofs
