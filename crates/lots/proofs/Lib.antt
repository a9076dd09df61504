pub mod Draws
pub mod Steps
pub mod Chances
pub mod Coins
pub mod Following
pub mod Told
