-- The laws of the audit. Read from the top; a later one uses earlier ones.
pub mod Tally
pub mod Columns
pub mod Passes
pub mod Sequences
pub mod Numbers
pub mod Walks
pub mod Audit
