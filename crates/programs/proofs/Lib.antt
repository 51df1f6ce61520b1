-- Determined: every contract that is an equation allows one result alone.
pub mod Determined
