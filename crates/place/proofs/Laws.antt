-- The laws of places by node and claimed neighbour: a real pair gives a true cursor.
pub mod Places
pub mod Real
