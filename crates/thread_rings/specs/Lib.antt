-- What goes through a ring, and what it says of the lane that sends it.
pub mod Following
-- A ring's two ends, as records.
pub mod Rings
