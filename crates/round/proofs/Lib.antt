pub mod Rounds
pub mod Complete
pub mod Opens
pub mod Faults
pub mod Contents
