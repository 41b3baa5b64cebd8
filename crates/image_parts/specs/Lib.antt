-- The promise: what public clauses state.
pub mod Layout
pub mod Header
pub mod Guards
pub mod Cells
pub mod Rows
pub mod NumberedRows
pub mod Control
pub mod Slots
pub mod Head
pub mod Image
pub mod Calls
pub mod Choice
pub mod Format
pub mod Recovered
pub mod Laws
-- Scaffold: what proofs need.
pub mod Blocks
