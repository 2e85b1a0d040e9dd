-- The laws of the C entry.
pub mod Count
pub mod Entry
pub mod Unique
