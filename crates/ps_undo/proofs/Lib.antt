pub mod Entries
pub mod Backs
pub mod CallsOfRuns
pub mod Edits
mod Faultless
pub mod Gathering
pub mod LineOrders
pub mod Parts
pub mod SavedEdits
pub mod Undoing
pub mod Suited
