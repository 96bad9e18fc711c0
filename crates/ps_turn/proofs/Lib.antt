pub mod Deals
pub mod Joined
pub mod Keeps
pub mod Lists
pub mod Places
pub mod Returns
pub mod Sends
pub mod Tokens
