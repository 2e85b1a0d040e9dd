-- The laws of the desk.
pub mod Limit
