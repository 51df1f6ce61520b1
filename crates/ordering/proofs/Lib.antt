-- The laws that proofs of this crate and above cite, in the order of the argument.
-- Comparing: how two rules stand to each other by their first fields.
-- Ordering: which of two rules comes first.
-- Fields: how two rules stand to each other, as the code finds it.
-- BothIn: two rules that a list has, and two that it has not.
-- Theorems: what the order says where fields are dates.
-- Determined: every contract allows one result alone.
pub mod Comparing
pub mod Ordering
pub mod Fields
pub mod BothIn
pub mod Theorems
pub mod Determined
