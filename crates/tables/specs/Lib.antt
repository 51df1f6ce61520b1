-- To be believed: what the contracts of public functions and the theorems say.
pub mod Layout
pub mod Opening
pub mod Report
-- Scaffolding: what the contracts of private functions say.
pub mod Asked
