pub mod GoalLists
pub mod GoalWords
pub mod LineForms
pub mod MemberLines
