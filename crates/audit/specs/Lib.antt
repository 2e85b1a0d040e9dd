-- What must be believed of the audit, and the steps that its code is made of. What is proved of them is in proofs/Laws.
pub mod Audit
pub mod Steps
pub mod Listed
