-- The promise: what a declaration makes of what was declared, what a schema file declares, and which file a schema has.
-- Public clauses state it.
pub mod Declares
pub mod SchemaFiles
pub mod SchemaText
-- The scaffold: how refusals are told, as functions.
pub mod Telling
