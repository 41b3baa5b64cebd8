-- The promise: what public clauses state, in the order to read it.
pub mod Setting
pub mod Record
pub mod State
pub mod Events
pub mod History
pub mod Log
pub mod StateOf
pub mod Own
pub mod Known
pub mod Others
pub mod Sections
pub mod OwnSections
pub mod Limits
pub mod Cuts
pub mod KeptHeap
pub mod Base
pub mod Earliest
-- What the clauses of a store's parts are said of.
pub mod Past
