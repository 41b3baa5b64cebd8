-- The promise: what a graph was told, what may be told next, the reason for being left out, and what may be told always.
pub mod Trace
pub mod Next
pub mod Reason
pub mod Laws
-- The scaffold: what only proofs need.
pub mod Steps
pub mod Counts
pub mod Links
pub mod Kept
pub mod Search
pub mod Inside
