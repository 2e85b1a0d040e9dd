-- The laws of splices: on sound lists each does its plain edit, and none changes more than four words.
pub mod Common
pub mod Splice
pub mod Mirror
pub mod Few
pub mod Refused
