-- The promise: what public clauses state.
pub mod Hosted
pub mod Calls
-- Scaffold: what proofs need.
pub mod Gathered
pub mod Taken
