-- The promise: what a run reads, does and prints, and what a crash and a recovery leave. Public clauses state it.
pub mod Runs
pub mod Texts
pub mod Crashing
pub mod Playing
