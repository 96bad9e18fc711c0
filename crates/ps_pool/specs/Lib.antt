pub mod Courses
pub mod Ordered
pub mod Rounds
pub mod Workers
