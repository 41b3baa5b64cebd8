-- The promise: what a crash of a host's device keeps.
pub mod Safe
pub mod Running
pub mod Told
pub mod Copies
pub mod Stopped
