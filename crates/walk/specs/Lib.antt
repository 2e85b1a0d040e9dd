-- What must be believed of marks, of the walk and of clear. What is proved of them is in proofs/Laws.
pub mod Marks
pub mod Walk
pub mod Calls
pub mod Released
