pub mod Plain
pub mod Primitives
pub mod InOrder
pub mod Finished
pub mod Fronts
pub mod Shapes
pub mod Drafted
