pub mod Conditions
pub mod Signs
pub mod Steps
pub mod Values
pub mod Words
