pub mod Round
pub mod Laws
pub mod Over
pub mod Line
pub mod Contents
