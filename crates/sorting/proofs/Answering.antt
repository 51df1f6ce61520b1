-- What a choice, a laying out and a build answer, and a report on what they leave.
-- BuildFaults: which of 1 to 5 a list and a table meet.
-- Building: what a build writes where they meet none.
-- Brought: what 16, 17 and 18 say of a run.
-- RunTests: the tests of a run, as the code makes them.
-- RunFaults: which refusals a list, a run and a table meet.
-- InTurn: what a choice and a laying out answer and leave.
-- Reports: what a report says of the table of any choice of partitions.
pub mod BuildFaults
pub mod Building
pub mod Brought
pub mod RunTests
pub mod RunFaults
pub mod InTurn
pub mod Reports
