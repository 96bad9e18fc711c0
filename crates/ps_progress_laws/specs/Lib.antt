pub mod DeadEnd
pub mod Engaged
pub mod Working
