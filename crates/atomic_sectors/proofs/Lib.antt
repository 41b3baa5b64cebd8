-- The lemmas of this crate and of those above.
pub mod Calculus
