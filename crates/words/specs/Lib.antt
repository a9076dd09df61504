pub mod Said
pub mod Reading
pub mod Writing
pub mod Model
pub mod Awaited
pub mod Stops
