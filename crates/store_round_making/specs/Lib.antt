-- What public clauses state.
pub mod Rounds
pub mod Promises
pub mod Joining
pub mod Helper
pub mod Beyond
pub mod Turns
pub mod Showing
