-- The promise: what public clauses state.
pub mod Laws
-- The scaffold: a plain search, which proofs speak of.
pub mod Plain
