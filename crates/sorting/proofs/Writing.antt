-- How the table is written.
-- Tally: loops that count.
-- Room: a local of which the first numbers are lent.
-- Ranks: the loop that writes each rule at its place.
-- Putting: numbers written into a table one after the other.
-- Leasts: the loop that notes each partition's smallest rule.
-- Rows: the runs by neighbouring places, a row of fields at a time.
-- Restarting: a row with one number from a field on.
-- Rowed: rows of fields written into a part of a table.
-- RowByRow: the loops that write the runs, a row of fields at a time.
-- Laid: the parts of a table, written one after the other, are the whole table.
pub mod Tally
pub mod Room
pub mod Ranks
pub mod Putting
pub mod Leasts
pub mod Rows
pub mod Restarting
pub mod Rowed
pub mod RowByRow
pub mod Laid
