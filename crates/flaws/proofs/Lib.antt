-- Nothing: of no flaw.
-- Determined: every contract allows one result alone.
pub mod Nothing
pub mod Determined
