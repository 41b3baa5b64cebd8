-- What public clauses state.
pub mod Laws
pub mod Worked
pub mod Histories
