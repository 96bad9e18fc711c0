pub mod Dealing
pub mod Gathering
pub mod Lists
pub mod Moves
pub mod Numbering
pub mod Sends
