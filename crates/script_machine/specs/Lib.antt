-- The promise: what a line makes of the machine, and what is answered. Public clauses state it.
pub mod Machine
pub mod States
pub mod Answers
pub mod Refusals
pub mod Reports
pub mod Studies
pub mod Lookups
pub mod Limits
pub mod Homes
pub mod StoreCalls
pub mod Agreement
pub mod OfSchema
pub mod Images
-- The scaffold: how the machine's own phases are seen.
pub mod Phases
pub mod Answering
