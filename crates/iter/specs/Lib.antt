-- What must be believed of the iterator.
pub mod Iter
pub mod Plain
