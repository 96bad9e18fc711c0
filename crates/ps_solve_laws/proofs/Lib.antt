pub mod LevelLaw
pub mod Lengths
pub mod NoneLaw
