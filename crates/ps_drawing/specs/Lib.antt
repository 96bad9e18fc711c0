pub mod Signs
pub mod Columns
pub mod Texts
pub mod Vectors
pub mod Laws
