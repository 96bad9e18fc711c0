pub mod CanonicalWords
pub mod Laws
