-- The table of refusals, for every call of the library and any arguments (demand 1).
use Rattle.std.specs.Prelude.{Err}
pub mod Calls
pub mod Table
pub mod Refused
pub mod Lowest
