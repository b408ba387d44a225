pub mod FitsLaws
pub mod KeyedLaws
pub mod PrefixLaws
pub mod WrittenLaws
pub mod Prefixed
pub mod PrefixEnds
