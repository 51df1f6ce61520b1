-- To be believed: what the contracts of public functions say.
pub mod Said
pub mod Few
