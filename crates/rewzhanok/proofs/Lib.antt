-- What is proved of the C entry.
pub mod Laws
