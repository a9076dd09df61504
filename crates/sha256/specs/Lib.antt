-- The definition of SHA-256, lanes of messages side by side, and what a hasher holds.
pub mod Lane
pub mod Sha256
pub mod Stream
