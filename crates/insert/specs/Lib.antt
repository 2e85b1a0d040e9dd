-- What must be believed of inserts.
pub mod Inserts
pub mod Plain
