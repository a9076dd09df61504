pub mod Planning
pub mod Model
pub mod Run
pub mod Opens
pub mod Conduct
