-- The promise: what public clauses state, in the order to read it.
pub mod Laws
pub mod OwnLaws
pub mod SectionLaws
