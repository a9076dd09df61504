pub mod Drawn
pub mod Endings
pub mod Kept
pub mod Options
pub mod Progress
pub mod Rounds
pub mod Showing
