-- What is proved of splices, beside the proof of each function.
pub mod Laws
