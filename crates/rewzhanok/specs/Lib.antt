-- What must be believed of the C entry.
pub mod Entry
