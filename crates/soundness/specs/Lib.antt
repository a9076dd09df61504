pub mod Questioned
pub mod Texts
pub mod Found
pub mod Sound
pub mod Knows
pub mod Examples
pub mod ReadOff
