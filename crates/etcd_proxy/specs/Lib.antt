pub mod Generated
pub mod Run
pub mod Start
pub mod Store
pub mod Texts
pub mod Words
pub mod Audit
pub mod Explained
