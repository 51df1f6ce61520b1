-- Names: laws of the names of the calls.
-- Answers: laws of the answer to a line, and of what it leaves.
-- Hearing: that a line heard byte by byte is answered as its words are.
-- Serving: laws of serving bytes, one by one and up to a line's end.
-- Replies: laws of serving line by line.
-- Hears: what has come of a line, as bytes.
-- Input: that input in pieces is answered line by line.
-- Theorems: the headline statements.
-- Determined: any two results that a public contract allows are equal.
pub mod Names
pub mod Answers
pub mod Hearing
pub mod Serving
pub mod Replies
pub mod Hears
pub mod Input
pub mod Theorems
pub mod Determined
