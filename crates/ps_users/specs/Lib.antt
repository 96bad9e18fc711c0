pub mod Singles
pub mod Users
