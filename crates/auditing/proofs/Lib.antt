-- The laws that proofs of this crate and above cite, in the order of the argument.
-- Minimum: the smallest of several numbers, and of a partition.
-- Checked: what the local facts of a table say.
-- Laid: a table has them exactly where some choice of partitions makes it.
-- Tested: the tests of a linear audit pass exactly where the facts hold.
-- Checking: the tests, as the code makes them.
-- Audits: what an audit answers.
-- Answers: what its answer says tells it apart from every other.
-- Theorems: what a reader may rely on.
-- Determined: the contract allows one result alone.
pub mod Minimum
pub mod Checked
pub mod Laid
pub mod Tested
pub mod Checking
pub mod Audits
pub mod Answers
pub mod Theorems
pub mod Determined
