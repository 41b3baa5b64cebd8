-- The promise: what public clauses state.
pub mod Commit
pub mod Commits
pub mod Laws
