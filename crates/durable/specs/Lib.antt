-- The promise: what a store knows and when it has a past, and what each call makes of it.
pub mod Begin
pub mod Store
pub mod Moments
pub mod Calls
pub mod Closed
pub mod Runs
pub mod Steps
pub mod Stops
pub mod Plays
