-- To be believed: what the theorems say.
pub mod Program
-- Scaffolding: what the contracts of private functions say.
pub mod HeaderBytes
pub mod Serving
