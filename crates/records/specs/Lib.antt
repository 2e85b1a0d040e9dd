-- What must be believed of reading.
pub mod Records
