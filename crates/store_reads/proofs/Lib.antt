pub mod SplitProofs
pub mod EventProofs
pub mod TellingProofs
pub mod PassedProofs
pub mod KeyProofs
