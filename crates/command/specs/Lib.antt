pub mod Files
pub mod Rounds
pub mod Endings
