-- What is proved of lists in a lent slice, beside the proof of each function.
pub mod Laws
