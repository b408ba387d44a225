pub mod StayTimed
pub mod StayOpen
