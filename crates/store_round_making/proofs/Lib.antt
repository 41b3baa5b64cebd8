pub mod Leading
pub mod Following
pub mod HelperRecords
pub mod BeyondLemmas
pub mod Covering
pub mod Shown
