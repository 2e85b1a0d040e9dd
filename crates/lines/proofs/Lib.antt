-- What is proved of lines and answers, beside the proof of each function.
pub mod Laws
