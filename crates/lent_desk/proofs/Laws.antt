-- The laws of the lent desk.
pub mod Copies
pub mod Steps
pub mod Unique
pub mod Kept
