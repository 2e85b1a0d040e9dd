-- What must be believed of the history of a desk: what it is, what it is for a desk to follow it, and many lines.
pub mod History
pub mod Follows
pub mod Runs
