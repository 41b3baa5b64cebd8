-- The promise: what recovery gives of what a crash left while threads ran.
pub mod Headline
pub mod Life
pub mod Openings
pub mod Durable
pub mod Hosts
-- The calls by which a heap lives.
pub mod Living
