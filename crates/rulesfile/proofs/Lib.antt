-- Flaws: of the flaws of a line and a file.
-- Numbers: that a flaw's number is 01's fault.
-- Steps: of the file byte by byte.
-- Lined: what one line comes to.
-- Come: what all lines of a file come to.
-- Pieces: that a file read in pieces, with the stop after a flaw, is read as in one.
-- Listing: the list of rules that stand, and the number of a whole file's flaw.
-- Tabling: of what becomes of the rules once their file has ended.
-- Ended: that what was read of a file comes to its flaw, or to its list and table.
-- Theorems: what a reader may rely on.
-- Determined: every contract allows one result alone.
pub mod Flaws
pub mod Numbers
pub mod Steps
pub mod Lined
pub mod Come
pub mod Pieces
pub mod Listing
pub mod Tabling
pub mod Ended
pub mod Theorems
pub mod Determined
