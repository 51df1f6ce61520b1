-- To be believed: what the contracts of public functions and the theorems say.
pub mod FirstFit
pub mod Table
pub mod Promise
pub mod Build
pub mod Brought
-- Scaffolding: what the contracts of private functions say.
pub mod Asked
pub mod Marks
pub mod Laying
