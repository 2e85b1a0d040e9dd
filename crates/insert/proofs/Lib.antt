-- What is proved of inserts, beside the proof of each function.
pub mod Laws
