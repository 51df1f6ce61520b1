-- Back: an answer read back from its numbers.
-- Theorems: what the library answers is read back from its numbers.
-- Determined: any two results that a contract allows are equal.
mod Back
mod Theorems
mod Determined
