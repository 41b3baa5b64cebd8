pub mod Telling
pub mod Calling
pub mod Both
pub mod Responding
mod Digits
