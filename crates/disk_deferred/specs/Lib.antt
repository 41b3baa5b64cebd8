-- The promise: what public clauses state.
pub mod Joined
pub mod Names
pub mod Deferred
pub mod DiskCalls
pub mod Syncs
pub mod Host
pub mod Handing
pub mod Copying
