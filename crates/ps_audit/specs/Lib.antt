pub mod EntryLines
pub mod Findings
pub mod Texts
