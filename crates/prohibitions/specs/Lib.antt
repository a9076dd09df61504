pub mod Prohibiting
pub mod Putting
