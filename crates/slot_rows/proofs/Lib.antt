mod Gathered
pub mod Changes
mod Edits
