-- The promise: what is read of an image, when it is refused, what is kept and dropped, what recovery leaves.
pub mod Settled
pub mod Reading
pub mod Versions
pub mod Dropping
pub mod Study
pub mod Fits
pub mod Ending
pub mod Recovery
-- The scaffold: what only proofs need.
pub mod Live
