-- The laws of words, links and listings, each said once. Read from the top; a later one uses earlier ones.
pub mod Cases
pub mod Nodes
pub mod Names
pub mod Pool
pub mod Chain
pub mod Part
pub mod Listing
pub mod Outside
pub mod Afresh
pub mod Unique
