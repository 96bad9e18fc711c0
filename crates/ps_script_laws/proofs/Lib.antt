pub mod GoalMarks
pub mod GoalMeanings
pub mod GoalScopes
pub mod LineForms
pub mod LineLexing
pub mod LineWords
pub mod ReadBack
