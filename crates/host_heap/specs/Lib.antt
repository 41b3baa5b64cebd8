-- The promise: what public clauses state.
pub mod Hosting
pub mod Opening
pub mod Closing
pub mod Again
pub mod Rounds
pub mod Sessions
pub mod Stopping
pub mod Failing
pub mod Meeting
pub mod Handing
-- How sessions come back, and what is true between calls.
pub mod Returning
pub mod Lanes
pub mod Seating
pub mod Keeping
