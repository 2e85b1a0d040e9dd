-- The laws of pieces of an input and of its answers.
pub mod Take
pub mod Place
pub mod Unique
