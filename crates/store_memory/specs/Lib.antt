-- The promise: what a memory is, of which past it is one, what it answers to a record, what it tells of logged sections, and
-- what may be forgotten.
pub mod Memory
pub mod Remembers
pub mod Begin
pub mod Apply
pub mod Limits
pub mod Fresh
pub mod Dirty
pub mod Sections
pub mod Trimming
-- The scaffold: what is known of the parts of a memory, and of the fields that keep it.
pub mod Verdict
pub mod Bits
pub mod Ends
pub mod Counted
pub mod Within
pub mod KeptSections
