pub mod ProperWrite
pub mod Keys
pub mod SettledEntries
pub mod DueParts
pub mod Compared
pub mod TurnedKeys
pub mod OwnersByKey
