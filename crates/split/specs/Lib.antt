-- What must be believed of splits.
pub mod Splits
pub mod Plain
