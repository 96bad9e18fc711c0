pub mod Judging
pub mod Laws
pub mod PlanText
pub mod Timing
