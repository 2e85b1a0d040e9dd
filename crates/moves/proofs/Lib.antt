-- What is proved of the moves, beside the proof of each function.
pub mod Laws
