-- What public clauses state, in the order to read them.
pub mod Sections
pub mod Adding
pub mod Laws
