-- What is proved of the audit, beside the proof of each function.
pub mod Laws
