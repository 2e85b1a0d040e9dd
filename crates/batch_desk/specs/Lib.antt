-- What must be believed of the batch desk, and the steps that its code is made of.
pub mod Step
pub mod Run
pub mod Pieces
pub mod Steps
