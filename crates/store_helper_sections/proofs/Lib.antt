pub mod Padding
pub mod Sections
pub mod Moving
pub mod Preceding
pub mod Standing
