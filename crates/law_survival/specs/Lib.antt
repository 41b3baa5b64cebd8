-- What public clauses state: what a store leaves, and what survives a run of it.
pub mod Accepted
pub mod WholeRun
pub mod Taken
pub mod Sides
pub mod Unsettled
pub mod Old
pub mod Again
pub mod Promise
pub mod Upgrade
pub mod EachImage
pub mod History
pub mod Running
