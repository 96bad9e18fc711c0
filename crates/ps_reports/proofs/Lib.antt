pub mod Numbered
pub mod SameUnits
pub mod Summed
pub mod Telling
