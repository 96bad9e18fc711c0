pub mod Children
pub mod Heaps
pub mod Nexts
pub mod Searches
pub mod Whole
