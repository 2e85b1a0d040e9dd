-- The laws of splits: on sound lists each does its plain edit, and none changes more than two words.
pub mod Split
pub mod Mirror
pub mod Few
pub mod Refused
