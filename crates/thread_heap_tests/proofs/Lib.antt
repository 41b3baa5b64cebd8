pub mod Lists
pub mod Zips
