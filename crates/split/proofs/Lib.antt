-- What is proved of splits, beside the proof of each function.
pub mod Laws
