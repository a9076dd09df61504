pub mod Tested
pub mod Promises
pub mod Bytes
