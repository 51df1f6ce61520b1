-- To be believed: what the contracts of public functions and the theorems say.
pub mod Answers
pub mod Version
