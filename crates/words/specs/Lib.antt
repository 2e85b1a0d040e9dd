-- What must be believed of the words of a pool. Read in this order; what is proved of them is in proofs/Laws.
pub mod Names
pub mod Pool
pub mod LinkOps
pub mod Listing
pub mod Afresh
pub mod Changes
