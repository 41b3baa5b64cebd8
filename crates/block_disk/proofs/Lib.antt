pub mod Bytes
pub mod Failures
pub mod Images
pub mod Kept
pub mod Possible
pub mod Ranges
pub mod InUnits
