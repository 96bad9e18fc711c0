pub mod Laws
pub mod Sayable
pub mod WordNames
