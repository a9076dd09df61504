pub mod Cutting
pub mod Phases
pub mod Laws
