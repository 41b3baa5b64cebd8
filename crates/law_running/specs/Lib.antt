-- The promise: what a crash keeps of a heap that runs, and of one that ran and was closed.
pub mod Runs
pub mod Running
pub mod Crashes
pub mod Told
pub mod Faults
pub mod Halves
-- What a cut keeps of a log, it keeps of each that has the lanes up to their last releases.
pub mod Released
