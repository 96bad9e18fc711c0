pub mod Queries
pub mod Telling
