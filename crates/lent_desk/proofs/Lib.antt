-- What is proved of the lent desk, beside the proof of each function.
pub mod Laws
