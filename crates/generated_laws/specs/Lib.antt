pub mod OnTime
pub mod Proxies
pub mod Worlds
pub mod Laws
