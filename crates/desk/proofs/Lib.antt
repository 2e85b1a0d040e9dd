-- What is proved of the desk.
pub mod Laws
