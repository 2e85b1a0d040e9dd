-- What must be believed of the links of a xor list.
pub mod XorOps
pub mod Reach
