-- What is promised, for a reader who wants nothing else: the three demands, the nine chains and the limits. Read Demand1, Demand2, Demand3; the
-- files before each have what it is said with.
pub mod Commands
pub mod Demand1
pub mod Plain
pub mod Demand2
pub mod Bounds
pub mod Desks
pub mod Pieces
pub mod Demand3
pub mod Nine
pub mod Limits
