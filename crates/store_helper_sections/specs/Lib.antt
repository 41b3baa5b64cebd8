-- What public clauses state, in the order to read them.
pub mod HelperSections
pub mod Going
pub mod Image
pub mod Laws
