-- The laws of reading.
pub mod Read
