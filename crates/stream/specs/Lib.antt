-- What must be believed of pieces of an input and of its answers.
pub mod Stream
