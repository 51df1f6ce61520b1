-- To be believed: what the contracts of public functions and the theorems say.
pub mod ReadOff
pub mod Audit
-- Not to be believed, but proved to say the same (`proofs/Laid.antt`): what append and withdraw will keep.
pub mod Checked
-- Scaffolding: what the contracts of private functions say.
pub mod Checks
