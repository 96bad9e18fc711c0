pub mod TablesFollow
pub mod SayableLines
pub mod SayableInputs
pub mod ReadHistories
pub mod ScriptReadings
pub mod FlattenedScripts
pub mod InputReadings
mod OneFinding
