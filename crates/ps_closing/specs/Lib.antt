pub mod Closing
pub mod Users
