pub mod Choices
pub mod Ranges
pub mod Takes
