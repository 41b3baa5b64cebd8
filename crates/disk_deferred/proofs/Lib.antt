pub mod Onto
pub mod Joins
pub mod Names
pub mod Moments
pub mod Short
pub mod Units
