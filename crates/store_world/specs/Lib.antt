pub mod Rising
pub mod ProperLeases
pub mod Store
pub mod Running
pub mod Faults
pub mod Pushes
pub mod Looked
