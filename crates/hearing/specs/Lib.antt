-- To be believed: what the contracts of public functions and the theorems say.
pub mod Flags
pub mod Lines
