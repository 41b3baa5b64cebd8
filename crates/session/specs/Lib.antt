-- The promise: what public clauses state, in the order to read it.
pub mod Logs
pub mod Sessions
pub mod Calls
pub mod TwoStores
pub mod Past
pub mod Opened
-- The scaffold: what a session keeps in addition to its seat's view, and what the parts of a call answer.
pub mod Grips
pub mod Sits
pub mod Kept
pub mod Steps
pub mod Keeping
