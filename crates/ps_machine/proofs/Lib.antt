pub mod EntryLines
pub mod Sends
