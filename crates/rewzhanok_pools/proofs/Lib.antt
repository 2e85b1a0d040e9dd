-- What is proved of the C entries for lent pools.
pub mod Laws
