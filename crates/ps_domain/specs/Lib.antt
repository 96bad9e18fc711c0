pub mod Grounding
pub mod Laws
pub mod Listing
pub mod Places
