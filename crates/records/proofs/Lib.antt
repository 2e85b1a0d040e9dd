-- What is proved of reading, beside the proof of each function.
pub mod Laws
