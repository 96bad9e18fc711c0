pub mod Counted
pub mod LineLists
pub mod Rows
