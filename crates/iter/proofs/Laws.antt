-- The laws of the iterator.
pub mod Steps
