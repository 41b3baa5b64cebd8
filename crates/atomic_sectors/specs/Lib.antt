-- The promise: what public clauses state.
pub mod Sectors
pub mod Left
pub mod Untorn
