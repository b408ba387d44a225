pub mod Fits
pub mod Laws
pub mod Ready
pub mod Found
