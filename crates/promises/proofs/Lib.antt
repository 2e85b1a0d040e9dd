-- The proofs of what is promised.
pub mod Commands
pub mod Lines
pub mod Demand1
pub mod Plain
pub mod Demand2
pub mod Nine
pub mod Bounds
pub mod Desks
pub mod Pieces
pub mod Demand3
pub mod Limits
