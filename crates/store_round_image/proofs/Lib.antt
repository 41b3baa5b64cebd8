pub mod Writing
pub mod Sparing
pub mod Round
