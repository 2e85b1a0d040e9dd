-- The laws of the C entries for lent pools.
pub mod Entries
pub mod Unique
