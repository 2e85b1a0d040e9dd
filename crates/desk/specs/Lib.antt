-- What must be believed of a desk: one command, the answer to a line, one step.
pub mod Work
pub mod Reply
pub mod Step
