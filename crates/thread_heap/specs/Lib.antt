-- The promise: what joins sessions and helper, what stays of that, and what closing gives.
pub mod Joined
pub mod Opening
pub mod Laws
pub mod Closed
pub mod Life
