-- The promise: which words are taken, and what they ask for. Public clauses state it.
pub mod Words
