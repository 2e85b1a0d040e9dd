-- The laws of the batch desk.
pub mod Step
pub mod Take
pub mod Finish
pub mod Whole
pub mod Pieces
pub mod Unique
