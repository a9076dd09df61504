pub mod Transcript
pub mod Faultless
pub mod Examples
