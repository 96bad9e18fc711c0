pub mod Answered
pub mod Editing
pub mod Units
