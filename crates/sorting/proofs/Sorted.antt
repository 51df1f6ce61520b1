-- The table that a list and a choice of partitions make.
-- Places: the place of a rule, the rule at a place.
-- Starts: what stands between two starts is one partition.
-- Leasts: the smallest rule of each partition.
-- Runs: the stretch of places that a run is, and its ends by neighbouring places.
-- Reading: what is read of the table of a list and a run of partition numbers.
-- Kept: the table of any choice of partitions keeps the promise.
-- Built: the table that the build writes keeps the promise.
pub mod Places
pub mod Starts
pub mod Leasts
pub mod Runs
pub mod Reading
pub mod Kept
pub mod Built
