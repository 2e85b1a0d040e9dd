-- What must be believed of the example.
pub mod Pushed
