-- What must be believed of lists in a lent slice.
pub mod Rows
