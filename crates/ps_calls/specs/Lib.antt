pub mod Headline
pub mod Laws
pub mod Reported
pub mod Telling
pub mod Verdicts
