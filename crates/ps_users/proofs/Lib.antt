pub mod Found
pub mod Growing
pub mod Noted
pub mod Things
