-- To be believed: what the contracts of public functions and the theorems say.
pub mod Output
pub mod Status
