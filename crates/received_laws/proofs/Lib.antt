pub mod Starting
pub mod Newest
pub mod Sights
pub mod Changing
pub mod Fronts
pub mod Within
pub mod Taking
pub mod Receiving
