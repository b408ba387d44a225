pub mod Renewals
pub mod Laws
