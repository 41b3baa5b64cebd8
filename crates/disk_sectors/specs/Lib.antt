-- The promise: what public clauses state.
pub mod Size
pub mod Readable
pub mod Memory
pub mod Access
pub mod Disks
pub mod Places
pub mod Turns
pub mod Frames
pub mod Labels
pub mod Marks
pub mod Areas
pub mod Gates
pub mod Opened
pub mod Refusals
