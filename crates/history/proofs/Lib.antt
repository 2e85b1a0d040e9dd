-- What is proved of the history.
pub mod Laws
