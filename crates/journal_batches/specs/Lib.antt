-- The promise: what public clauses state.
pub mod Areas
pub mod Entries
pub mod Batches
pub mod Spelled
pub mod Shown
pub mod Mixed
pub mod Rests
pub mod Laws
pub mod Coded
