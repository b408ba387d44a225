pub mod VersionProofs
pub mod KeptProofs
pub mod LaterProofs
pub mod ChangeProofs
pub mod PlaceProofs
