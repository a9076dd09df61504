pub mod Filled
pub mod Awaited
pub mod Opens
pub mod Conducts
