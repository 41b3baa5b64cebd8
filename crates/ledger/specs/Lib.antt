-- The promise: which answers there are.
pub mod Answers
-- What a transfer makes of a thread, and which path asks for it.
pub mod Transfers
pub mod Orders
-- The scaffold: what a thread holds over a transfer.
pub mod Holding
