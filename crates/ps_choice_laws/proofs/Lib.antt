pub mod ByMembers
pub mod Members
pub mod Stood
pub mod Ticker
pub mod Whose
