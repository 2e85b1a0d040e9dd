-- The laws of xor, of the listings of xor lists, and of the steps that edits are made of.
pub mod Xor
pub mod XorListing
pub mod Trades
pub mod Between
pub mod Cuts
pub mod Reach
