-- What must be believed of ends and of the tests of fixed size.
pub mod Ends
pub mod Tests
