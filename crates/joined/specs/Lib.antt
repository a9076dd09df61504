pub mod Side
pub mod Sides
pub mod Refused
pub mod Answered
pub mod Joined
pub mod Cases
