-- What must be believed of the calls on a list by its ends.
pub mod Lists
pub mod Plain
