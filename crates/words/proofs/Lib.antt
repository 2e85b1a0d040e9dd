-- What is proved of the words, beside the proof of each function.
pub mod Laws
