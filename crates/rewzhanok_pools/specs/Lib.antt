-- What must be believed of the C entries for lent pools.
pub mod Entries
