pub mod Chain
pub mod Lengths
pub mod Model
