pub mod Answered
pub mod Refusals
pub mod Runs
