-- What public clauses state.
pub mod Turning
pub mod Promises
