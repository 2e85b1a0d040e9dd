-- What must be believed of splices, and of calls on two lists.
pub mod Splices
pub mod Plain
