-- The promise: what public clauses state.
pub mod Schema
pub mod Declaring
-- The scaffold: the tables that keep a schema.
pub mod Names
pub mod Tables
