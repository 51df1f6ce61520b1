-- Feeding: that bytes fed in two pieces are as in one.
-- Cells: that a cell read byte by byte is what its bytes come to.
-- Rows: that a line's cells read byte by byte are what its cells come to.
-- Files: that a file read byte by byte is read line by line.
-- Keeping: what bytes and line ends keep, all of a file keeps.
-- Lines: that a line of CSV read byte by byte is what its bytes come to.
-- Judging: that a file whose lines are judged one by one is read byte by byte so.
-- Puts: of bytes put from a place on.
-- Decimals: of a number's digits.
-- Counted: what a whole line's cells come to.
-- Determined: every contract allows one result alone.
pub mod Feeding
pub mod Cells
pub mod Rows
pub mod Files
pub mod Keeping
pub mod Lines
pub mod Judging
pub mod Puts
pub mod Decimals
pub mod Counted
pub mod Determined
