-- What a lane of eight messages holds.
pub mod Lane
