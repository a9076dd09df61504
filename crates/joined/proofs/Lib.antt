pub mod Sides
pub mod Refused
pub mod Written
pub mod Answered
pub mod Joins
pub mod Cases
