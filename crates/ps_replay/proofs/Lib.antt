pub mod Judges
pub mod Leading
pub mod PlanQueries
pub mod Quiet
