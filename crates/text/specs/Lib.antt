-- To be believed: what the contracts of public functions and the theorems say.
pub mod Cells
pub mod Rows
pub mod Files
pub mod Lines
pub mod Judging
pub mod Texts
pub mod Decimals
pub mod Puts
