pub mod KeyMarks
pub mod Marked
pub mod Marks
pub mod RowMarks
pub mod Waiting
