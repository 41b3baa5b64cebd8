-- The promise: what a crash of the device below a journal keeps of a heap.
pub mod Given
pub mod Left
pub mod Kept
pub mod Steps
