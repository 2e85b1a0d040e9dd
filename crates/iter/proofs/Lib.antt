-- What is proved of the iterator, beside the proof of each function.
pub mod Laws
