pub mod Pairs
pub mod Testing
