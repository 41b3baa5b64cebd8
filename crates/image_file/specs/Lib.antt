-- The promise: what public clauses state.
pub mod Images
pub mod Beside
pub mod Formatting
pub mod Telling
pub mod Recovering
pub mod Showing
pub mod Naming
pub mod Drawing
pub mod Dumping
