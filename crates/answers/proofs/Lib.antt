-- What is proved of answers, beside the proof of each function.
pub mod Laws
