-- Few: laws of bytes put, at most so many.
-- Said: laws of answers as text.
-- Determined: any two results that a public contract allows are equal.
pub mod Few
pub mod Said
pub mod Determined
