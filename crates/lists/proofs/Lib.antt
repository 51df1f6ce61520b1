-- The laws that proofs of this crate and above cite:
-- Search: of a loop that tests 0, 1, .. until one answers otherwise.
-- Dates: which fields are dates.
-- Rules: where a rule's numbers stand, and what a list of the right shape is.
-- InList: which rules a list has.
-- Faults: which refusal of 1 to 4 a list meets.
-- InUse: which of 1 and 2 a list meets that is lent in full, and its part in use.
-- Voids: of the refusal 4, a range that holds no number, in a field, in a rule, in a list.
-- Sound: what a list is that meets none of 1 to 4.
-- Fitting: of what fits a header.
-- Edges: of a rule's fields at an end of their ranges.
-- Meeting: of rules that one header can fit.
-- Pairs: which pair order independence names.
-- Answers: what an answer says tells it apart from every other.
-- Determined: any two results that a public contract allows are equal.
-- Theorems: the statements on check, scan and order independence.
pub mod Search
pub mod Dates
pub mod Rules
pub mod InList
pub mod Faults
pub mod InUse
pub mod Voids
pub mod Sound
pub mod Fitting
pub mod Edges
pub mod Meeting
pub mod Pairs
pub mod Answers
pub mod Determined
pub mod Theorems
