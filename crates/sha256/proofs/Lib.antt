-- The lemmas that the proofs of several functions share.
pub mod Bytes
pub mod Lanes
pub mod Messages
pub mod Names
pub mod Rounds
pub mod Streams
