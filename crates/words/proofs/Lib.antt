pub mod Numbers
pub mod Lengths
pub mod Grows
pub mod Laws
pub mod Puts
pub mod StopLaws
