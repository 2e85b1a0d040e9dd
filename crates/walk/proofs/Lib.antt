-- What is proved of the walk, beside the proof of each function.
pub mod Laws
