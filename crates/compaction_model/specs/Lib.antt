pub mod Versions
pub mod Places
pub mod KeyLaws
pub mod Worked
