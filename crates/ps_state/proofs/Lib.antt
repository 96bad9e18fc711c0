pub mod Awaiting
mod Due
mod Gathered
pub mod Grounded
mod MemberNames
mod Places
pub mod PlanTrees
mod Rest
