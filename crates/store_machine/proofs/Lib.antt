pub mod DeadlineOrder
pub mod Room
pub mod Steps
pub mod Parts
pub mod Machines
