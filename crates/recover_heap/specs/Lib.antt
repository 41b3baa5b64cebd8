-- The promise: the heap of an image's records, and what putting it back does.
pub mod Logs
pub mod Heap
pub mod Putting
