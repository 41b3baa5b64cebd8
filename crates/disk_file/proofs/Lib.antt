pub mod Again
pub mod Spans
pub mod Unwritten
pub mod WrittenBack
