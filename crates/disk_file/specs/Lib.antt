-- The promise: what public clauses state.
pub mod Backing
pub mod Mirror
pub mod Refusals
-- Scaffold: what the disks' invariants say.
pub mod Buffered
