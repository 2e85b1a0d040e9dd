-- What must be believed of command lines and answers.
pub mod Lines
pub mod Inputs
pub mod Answers
