pub mod Changes
pub mod Editing
pub mod Laws
pub mod Saved
pub mod Runs
