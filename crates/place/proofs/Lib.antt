-- What is proved of places by node and claimed neighbour, beside the proof of each function.
pub mod Laws
