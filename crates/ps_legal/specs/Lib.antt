pub mod Lines
pub mod Plans
pub mod Same
pub mod Table
