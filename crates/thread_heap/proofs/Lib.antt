pub mod Keeping
pub mod Beginnings
pub mod Ending
pub mod Meetings
pub mod Living
pub mod Failing
