-- The laws of answers.
pub mod Ladder
