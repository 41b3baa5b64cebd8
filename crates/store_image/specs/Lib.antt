-- The promise: what an image shows of a past and stands for, what making one gives, what each step needs, and the laws.
pub mod Consistent
pub mod KeptHeap
pub mod Formatting
pub mod Steps
pub mod Promises
pub mod Laws
pub mod NewRecords
pub mod Sequences
