pub mod Frugal
pub mod Laws
pub mod Sample
