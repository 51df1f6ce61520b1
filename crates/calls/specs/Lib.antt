-- To be believed: what the contracts of public functions and the theorems say.
pub mod Names
pub mod Answers
pub mod Replies
pub mod Input
-- Scaffolding: what the contracts of private functions say.
pub mod Serving
