pub mod Box
pub mod Binding
pub mod Model
