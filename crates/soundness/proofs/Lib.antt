pub mod Runs
pub mod Hits
pub mod Points
pub mod Found
pub mod Bounds
pub mod Shares
pub mod Examples
pub mod Few
