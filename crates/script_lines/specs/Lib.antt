-- The promise: what a line asks for, what is wrong with it, and what is read of a text. Public clauses state it.
pub mod Orders
pub mod Words
pub mod Grammar
pub mod Lines
pub mod Endings
-- The scaffold: the same as functions from the left, what proofs compare the promise with.
pub mod Cutting
pub mod Reading
