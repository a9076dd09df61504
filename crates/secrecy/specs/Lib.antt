pub mod View
pub mod Lots
pub mod Twins
pub mod Secret
pub mod Drawn
pub mod Simulated
pub mod Secrecy
pub mod Misses
