pub mod RunLines
pub mod Stages
