-- What is proved of the list calls, beside the proof of each function.
pub mod Laws
