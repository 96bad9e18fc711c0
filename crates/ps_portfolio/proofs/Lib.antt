pub mod Greediness
pub mod Levelling
pub mod Sends
