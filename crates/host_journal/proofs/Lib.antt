-- The lemmas of this crate.
pub mod Pieces
pub mod Turning
pub mod Hosting
pub mod Beginning
pub mod Answering
