-- To be believed: what the contracts of public functions and the theorems say.
pub mod Walk
pub mod Lookup
pub mod Bounds
-- Scaffolding: what the contracts of private functions say.
pub mod Lent
pub mod Packed
