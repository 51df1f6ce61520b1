-- Dates: laws of the flags of D.
-- Lines: laws of a line read byte by byte.
-- FirstNumber: that a line's numbers are read as cells, and the flags of the first by themselves.
-- Determined: any two results that a public contract allows are equal.
pub mod Dates
pub mod Lines
pub mod FirstNumber
pub mod Determined
