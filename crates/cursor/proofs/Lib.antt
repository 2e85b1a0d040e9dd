-- What is proved of the cursor, beside the proof of each function.
pub mod Laws
