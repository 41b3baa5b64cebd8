-- The promise: which schema is an image's, which file its heap makes, and how it is drawn. Public clauses state it.
pub mod OfImage
pub mod Dumping
pub mod Drawing
-- The scaffold: the lines of a schema file, by number.
pub mod Lines
