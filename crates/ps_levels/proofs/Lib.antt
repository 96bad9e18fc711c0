pub mod Depths
pub mod Nexts
pub mod Walks
