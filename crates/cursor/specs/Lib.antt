-- What must be believed of the cursor: its tests, the plain sequences and places that it stands for, and what its calls leave alone.
pub mod Cursor
pub mod Plain
pub mod Alone
pub mod Edits
pub mod Does
