pub mod Leaves
pub mod Search
