pub mod Touches
pub mod Rows
pub mod Courses
pub mod Laws
