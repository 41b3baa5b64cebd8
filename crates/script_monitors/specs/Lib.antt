-- The promise: the monitors, threads and values of a schema, as a plain state. Public clauses state it.
pub mod Table
pub mod WaitSets
pub mod Asking
pub mod Monitor
