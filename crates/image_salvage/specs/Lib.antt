-- The promise: what is read of a damaged image, what is written of it, and when it is refused. Public clauses state it.
pub mod Notes
pub mod Cells
pub mod Slots
pub mod AtPaths
