-- The choice of partitions.
-- Compared: what a comparison of two rules of the list says.
-- Parts: how many partitions a run of partition numbers opens.
-- FirstFits: first fit is a choice of partitions, and each rule gets the lowest that is free.
-- Stamps: first fit by stamps.
-- Seen: marks of the numbers that a run has.
-- Choosing: the loop that takes one rule after the other.
pub mod Compared
pub mod Parts
pub mod FirstFits
pub mod Stamps
pub mod Seen
pub mod Choosing
