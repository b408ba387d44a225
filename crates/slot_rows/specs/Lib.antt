pub mod Roomy
pub mod Slots
