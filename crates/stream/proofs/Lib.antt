-- What is proved of pieces, beside the proof of each function.
pub mod Laws
