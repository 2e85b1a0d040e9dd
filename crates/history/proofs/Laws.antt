-- The laws of the history. In the order of the argument: how often a node is held; a desk that agrees with its history stays so
-- when one list changes, or two; each command; one line; any lines.
pub mod Counts
pub mod Counted
pub mod Elements
pub mod Agrees
pub mod Plain
pub mod Comes
pub mod Commands
pub mod Pairs
pub mod Clears
pub mod Audits
pub mod Steps
pub mod Runs
pub mod Numbers
