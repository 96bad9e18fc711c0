pub mod Certain
pub mod ConditionForms
pub mod Operations
pub mod Refusals
pub mod Steps
