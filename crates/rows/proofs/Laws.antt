-- The laws of lists in a lent slice.
pub mod Rows
