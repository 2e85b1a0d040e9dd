-- What must be believed of remove and replace.
pub mod Removes
pub mod Plain
