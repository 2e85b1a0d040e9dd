-- What is proved of the links of a xor list, beside the proof of each function.
pub mod Laws
