-- The promise: what a helper is and what its calls make of it; what opening a heap needs; what closing it down needs and gives.
pub mod Parts
pub mod Serving
pub mod Taken
pub mod Bounds
pub mod Draining
pub mod Settled
pub mod Helping
pub mod Counts
pub mod Rings
pub mod Moves
pub mod Limits
pub mod Opening
pub mod Endings
pub mod Closed
pub mod Leaving
pub mod Calls
pub mod Meets
pub mod Seen
pub mod Hearing
pub mod Heard
-- The scaffold: what is known while the sessions that have ended meet their rings.
pub mod Meeting
