pub mod Acts
pub mod Awaiting
pub mod Forced
pub mod Names
pub mod State
pub mod Taking
