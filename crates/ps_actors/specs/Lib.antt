pub mod Choice
pub mod Heard
pub mod Ticks
pub mod Turns
