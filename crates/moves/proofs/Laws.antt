-- The laws of the moves, on a sequence.
pub mod Moves
