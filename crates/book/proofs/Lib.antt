-- The laws of the book.
pub mod Breach
pub mod Uses
