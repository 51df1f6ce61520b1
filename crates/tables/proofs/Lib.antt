-- The laws that proofs of this crate and above cite:
-- Offsets: every part of a table lies within it.
-- SameTable: two tables that are read alike are one.
-- Readers: numbers of a table as the code reads them.
-- Opened: what a table is that opens.
-- Reporting: what a report needs, and what it answers.
-- Answers: what a report's answer says tells it apart from every other.
-- Determined: every contract allows one result alone.
pub mod Offsets
pub mod SameTable
pub mod Readers
pub mod Opened
pub mod Reporting
pub mod Answers
pub mod Determined
