pub mod Counting
pub mod SeenBars
