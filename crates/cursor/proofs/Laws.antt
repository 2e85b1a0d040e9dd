-- The laws of the cursor: its tests pass where it is true, its mirror, and what its calls leave alone.
pub mod Alone
pub mod Mirror
pub mod Sound
pub mod Swap
pub mod Common
pub mod Few
pub mod Refused
