-- The promise: what public clauses state.
pub mod RecordBytes
pub mod Area
pub mod Frames
pub mod OldValues
pub mod Dropped
pub mod StandsFor
pub mod Laws
-- Scaffold: what proofs need.
pub mod Runs
