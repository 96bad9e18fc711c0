pub mod Choosing
pub mod Marking
