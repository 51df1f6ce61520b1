-- Fronts: of a run whose place a function makes itself.
-- Said: of the lines that are printed.
-- Lengths: no line that is printed is longer than `line_most` bytes.
-- Complaints: of what is said where no line was refused.
-- Counts: of the count of header lines.
-- Counting: that lines are counted as they are defined.
-- Determined: every contract allows one result alone.
pub mod Fronts
pub mod Said
pub mod Lengths
pub mod Complaints
pub mod Counts
pub mod Counting
pub mod Determined
