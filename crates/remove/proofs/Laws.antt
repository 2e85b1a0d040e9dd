-- The laws of remove and replace: on a sound list each does its plain edit, and none changes more than four words.
pub mod Remove
pub mod Replace
pub mod Few
pub mod Refused
