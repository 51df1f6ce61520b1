-- To be believed: what the contracts of public functions and the theorems say.
pub mod Numbers
pub mod Refusals
pub mod Spots
pub mod Sides
pub mod Standings
pub mod Prefixes
pub mod Blocks
