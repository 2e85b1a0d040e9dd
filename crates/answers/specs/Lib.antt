-- What must be believed of refusals and answers.
pub mod Answer
