-- To be believed: what the contracts of public functions and the theorems say.
pub mod Faults
pub mod Flaws
pub mod Bytes
pub mod Tabled
