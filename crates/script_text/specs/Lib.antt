pub mod Lines
pub mod Items
pub mod Faults
pub mod Laws
