pub mod Plans
pub mod Pairs
pub mod Asking
pub mod Coins
