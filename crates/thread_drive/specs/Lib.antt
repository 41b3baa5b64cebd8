-- The promise: what workers leave of a heap.
pub mod Driven
-- Their schema and image, what a crash left, why a run is stopped, and which refusal comes when.
pub mod Schemas
pub mod Crashes
pub mod Stops
pub mod Refusals
-- What workers keep.
pub mod Working
