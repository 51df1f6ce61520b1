-- To be believed: what the contracts of public functions and the theorems say.
pub mod Said
pub mod HeaderLines
pub mod Counts
pub mod Opened
pub mod Complaints
