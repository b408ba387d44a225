pub mod Sources
pub mod Named
pub mod Laws
