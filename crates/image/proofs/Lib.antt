pub mod Committed
pub mod Commits
pub mod Spares
pub mod Turning
pub mod Opening
pub mod EitherGates
