-- The laws of inserts: on a sound list each does its plain edit, and none changes more than four words.
pub mod Insert
pub mod Mirror
pub mod Few
pub mod Refused
