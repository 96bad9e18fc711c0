pub mod Books
pub mod Hands
pub mod Rule
pub mod Seats
pub mod Turns
