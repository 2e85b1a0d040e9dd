-- The laws of the list calls: on a listing each does its plain edit, and none changes more than four words.
pub mod Pushes
pub mod Pops
pub mod Ends
pub mod Few
pub mod Refused
