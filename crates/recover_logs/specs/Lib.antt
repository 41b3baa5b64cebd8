-- What public clauses state, in the order to read them.
pub mod Limits
pub mod Monitors
pub mod Lanes
pub mod Logs
pub mod Replay
pub mod Settled
pub mod Tables
pub mod Tally
-- What only proofs need.
pub mod First
pub mod Crossings
