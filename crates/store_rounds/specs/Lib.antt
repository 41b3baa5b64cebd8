-- The promise: what a store for rounds knows and when it has a past, what each call makes of it, and what runs of calls leave.
pub mod Store
pub mod Begin
pub mod Steps
pub mod Stops
pub mod Runs
-- The scaffold: which cells a round writes, and what its parts promise.
pub mod Cells
pub mod Turns
