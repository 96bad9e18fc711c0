pub mod CanonicalWords
pub mod CondRanks
pub mod Pieces
pub mod Writing
