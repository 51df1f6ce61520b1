-- The laws that proofs of this crate and above cite, from the code's leaves up:
-- Within: what the walk reads lies within the list and the table.
-- Steps: what one test leaves.
-- Arrivals: the end of a walk at field d.
-- Walks: the turns of a walk, and what holds of every walk.
-- Enough: how many tests a walk may make alters nothing, once they are enough.
-- Named: a rule that a walk names fits.
-- Packing: a walk's answer as one number, and back.
-- Counts: how many tests a walk makes.
-- Visits: a partition.
-- Turns: all of them in order, each skipped or visited.
-- Lookups: the refusals of the opening, and the search of a table that opens.
-- What follows of the lookup, by its definition alone:
-- Returned: a rule returned fits.
-- Unread: numbers past d are unread.
-- Brokens: when a partition is broken, in 01's own conditions.
-- Refusing: when a lookup refuses, and with what.
-- Totals: the count is the sum, at most d + k a partition.
-- Groups: what holds of a group of places of a table that keeps the promise, and that a test keeps it.
-- Finds: a walk through a partition of such a table finds the rule that fits.
-- Firsts: the lookup in such a table is first match, and so is 01's search of all partitions.
-- Matched: an answer at the first match, by which rules fit.
-- Reached: the bound is reached.
-- Theorems: the headline statements under the three demands.
-- Cases: the marked cases.
-- Answers: what an answer says tells it apart from every other.
-- Determined: any two results allowed are equal.
pub mod Within
pub mod Steps
pub mod Arrivals
pub mod Walks
pub mod Enough
pub mod Named
pub mod Packing
pub mod Counts
pub mod Visits
pub mod Turns
pub mod Lookups
pub mod Returned
pub mod Unread
pub mod Brokens
pub mod Refusing
pub mod Totals
pub mod Groups
pub mod Finds
pub mod Firsts
pub mod Matched
pub mod Reached
pub mod Theorems
pub mod Cases
pub mod Answers
pub mod Determined
