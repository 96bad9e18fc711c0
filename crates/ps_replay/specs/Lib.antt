pub mod Judge
pub mod Replay
