pub mod Following
pub mod Going
pub mod Grounded
pub mod Leading
pub mod Ordering
pub mod Telling
pub mod Walking
