-- What is proved of the batch desk.
pub mod Laws
