-- The laws of lines.
pub mod Answers
pub mod Both
pub mod Lines
pub mod Tested
