-- The laws of the tests of fixed size.
pub mod Holds
pub mod Stands
pub mod Passed
