-- What is proved of ends and tests, beside the proof of each function.
pub mod Laws
