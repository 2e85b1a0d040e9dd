-- What is proved of remove and replace, beside the proof of each function.
pub mod Laws
