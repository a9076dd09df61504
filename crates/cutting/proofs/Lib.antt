-- How words are cut, for the laws of the crates above.
pub mod Cuts
pub mod Shapes
pub mod Rounds
