pub mod Transcript
pub mod Blameless
pub mod Examples
