pub mod Numbers
pub mod StepTickets
pub mod Streams
pub mod Tickets
