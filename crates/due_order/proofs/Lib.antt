pub mod Acquires
pub mod Asks
pub mod Earliest
pub mod PlaceOrder
pub mod Streams
