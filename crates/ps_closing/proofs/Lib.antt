pub mod Growing
pub mod Seen
pub mod Entered
