-- The promise: what public clauses state.
pub mod Bytes
pub mod Device
pub mod Images
pub mod Since
pub mod Memory
pub mod Crash
pub mod Laws
pub mod Traced
-- Scaffold: what proofs need.
pub mod Calls
