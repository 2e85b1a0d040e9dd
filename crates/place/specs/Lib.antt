-- What must be believed of places by node and claimed neighbour.
pub mod Places
pub mod Plain
