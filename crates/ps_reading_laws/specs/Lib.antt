pub mod Laws
pub mod Levels
pub mod Samples
pub mod Writable
