pub mod Answers
pub mod Faults
pub mod Numbers
pub mod Sent
