pub mod Asked
pub mod Pictures
pub mod Telling
pub mod Shows
