-- To be believed: what the contracts of public functions say.
pub mod Limits
pub mod Parts
pub mod Words
