-- To be believed: what the contracts of public functions and the theorems say.
pub mod Limits
pub mod Rules
pub mod Headers
pub mod FirstMatch
pub mod Faults
pub mod Edges
pub mod Check
pub mod Found
pub mod Scan
pub mod Independence
-- Scaffolding: what the contracts of private functions say.
pub mod Asked
