pub mod RequestProofs
pub mod RangeProofs
pub mod NamedProofs
pub mod Lifted
pub mod Deletions
pub mod Branches
pub mod StepCases
pub mod AnsweredProofs
