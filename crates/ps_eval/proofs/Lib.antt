pub mod Facts
pub mod Faultless
pub mod Flats
pub mod Reading
