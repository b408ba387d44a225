pub mod Foreign
pub mod Returned
pub mod Laws
