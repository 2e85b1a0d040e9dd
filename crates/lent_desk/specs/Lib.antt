-- What must be believed of the lent desk, and the steps that its code is made of. What is proved of them is in proofs/Laws.
pub mod Lent
pub mod Steps
