-- The promise: what is done, what is told of workers and why it isn't, and the status. Public clauses state it.
pub mod Obeying
pub mod Beside
pub mod Driving
pub mod DrivenText
pub mod Telling
pub mod Faults
pub mod Status
pub mod Heads
