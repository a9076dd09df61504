pub mod Enough
pub mod Drawing
pub mod Uniform
