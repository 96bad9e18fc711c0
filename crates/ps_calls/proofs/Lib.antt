pub mod Ends
pub mod Endings
pub mod Modes
pub mod OneSession
pub mod Performed
pub mod Statuses
pub mod WithReports
