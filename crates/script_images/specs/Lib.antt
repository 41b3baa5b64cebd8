-- The promise: whose schema is an image's, which lines a strict run plays, what a script makes of an image, how a run over one that is kept
-- somewhere ends, and which values are told and set. Public clauses state it.
pub mod Schemas
pub mod Strict
pub mod Playing
pub mod Running
pub mod Values
pub mod Assigning
-- The scaffold: how refusals and errors of the rooms below are told again.
pub mod Reasons
