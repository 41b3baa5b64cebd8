-- The lemmas of this crate.
pub mod LabelLemmas
pub mod PageLemmas
pub mod SettlingLemmas
pub mod OpeningLemmas
pub mod MakingLemmas
pub mod KeptLemmas
pub mod WordLemmas
