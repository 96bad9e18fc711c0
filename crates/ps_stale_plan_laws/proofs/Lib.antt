pub mod Accepted
pub mod Asking
pub mod Counted
pub mod Due
pub mod Lists
pub mod Sameness
pub mod Standing
pub mod Walking
