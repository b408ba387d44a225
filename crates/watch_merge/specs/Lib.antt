pub mod Faults
pub mod Leavings
pub mod Members
pub mod Standing
pub mod Taking
pub mod Twins
pub mod Watches
