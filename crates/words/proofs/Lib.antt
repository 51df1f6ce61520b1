-- Lent: the rest of a run, as it is lent.
-- Longest: laws of how many numbers and bytes there are at most.
-- Parts: laws of the parts of a line's numbers.
-- Narrowing: numbers of 16 bits, and their writing to a table.
-- Words: laws of what each word answers and leaves.
-- Determined: any two results that a public contract allows are equal.
pub mod Lent
pub mod Longest
pub mod Parts
pub mod Narrowing
pub mod Words
pub mod Determined
