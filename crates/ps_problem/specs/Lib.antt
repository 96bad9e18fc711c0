pub mod Changes
pub mod KindLists
pub mod Namings
pub mod Patches
pub mod Puts
pub mod WellKnown
