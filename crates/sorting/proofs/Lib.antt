-- The laws that proofs of this crate and above cite, in the order of the argument; each folder lists its files. The order of rules is
-- a crate below, `ordering`.
-- Partitions: the choice of partitions.
-- Sorted: the table that a list and a choice of partitions make.
-- Writing: how the table is written.
-- Answering: what a build and an audit answer, and a report on what they leave.
-- Cases: the tables of B1 and B9.
-- Theorems: what a reader may rely on.
-- Determined: every contract allows one result alone.
pub mod Partitions
pub mod Sorted
pub mod Writing
pub mod Answering
pub mod Cases
pub mod Theorems
pub mod Determined
