pub mod Fronts
pub mod Names
pub mod Page
pub mod Pieces
pub mod Reply
pub mod Series
