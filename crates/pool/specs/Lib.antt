-- The promise: what public clauses state, in the order to read it.
pub mod Knowledge
pub mod FreeList
pub mod Calls
pub mod LaidOut
pub mod Numbered
pub mod Knowing
pub mod SectionCalls
-- The scaffold: one name, and the parts of laying out.
pub mod Names
pub mod Declaring
-- The law of what calls in a section keep.
pub mod Keeping
