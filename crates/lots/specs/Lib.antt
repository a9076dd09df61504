pub mod Lots
pub mod Views
pub mod Laws
