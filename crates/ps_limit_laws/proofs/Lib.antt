mod GoalMarks
mod GoalSymbols
mod GoalTexts
pub mod GoalTrees
pub mod ShortPlans
pub mod SoundLines
pub mod SoundMembers
mod SoundUnits
