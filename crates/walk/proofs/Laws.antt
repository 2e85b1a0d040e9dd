-- The laws of marks, of the walk and of clear. Read from the top; a later one uses earlier ones.
pub mod Marks
pub mod Passes
pub mod Step
pub mod Loop
pub mod Stands
pub mod Calls
pub mod Walk
pub mod Clear
pub mod Chains
