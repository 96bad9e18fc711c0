pub mod Choosing
pub mod Whose
