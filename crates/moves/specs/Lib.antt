-- What must be believed of the moves.
pub mod Moves
