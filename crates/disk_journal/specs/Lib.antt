-- The promise: what public clauses state.
pub mod Labels
pub mod Steps
pub mod Stands
pub mod Disks
pub mod Kept
pub mod Refusals
pub mod Opened
pub mod Made
