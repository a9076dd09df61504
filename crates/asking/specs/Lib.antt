pub mod Asking
pub mod Model
pub mod Run
pub mod Conduct
