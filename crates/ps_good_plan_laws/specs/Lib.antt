pub mod Beginnings
pub mod Segments
pub mod Telling
