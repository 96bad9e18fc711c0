pub mod Attempts
pub mod Children
pub mod Differences
pub mod Joining
pub mod Listing
pub mod Orders
pub mod Reached
pub mod Trees
