-- The lemmas that the proofs of several functions share, and those of use to crates above.
pub mod Binds
pub mod Boxes
pub mod Bytes
pub mod Digests
pub mod Groups
pub mod Parts
pub mod Same
pub mod Texts
