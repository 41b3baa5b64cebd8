-- The promise: what threads leave of a heap, and what stops them.
pub mod Outcomes
pub mod Stops
pub mod Runs
-- How many lanes the image of a heap has for its threads.
pub mod ImageLanes
-- What a thread's calls say, and what `durable` keeps.
pub mod Threads
pub mod Durable
-- What is known of a heap whose threads have come back.
pub mod Returns
-- What bodies, threads and helper keep.
pub mod Bodies
pub mod Beside
pub mod Serving
pub mod Crashes
