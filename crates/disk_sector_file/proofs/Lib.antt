-- The lemmas of this crate.
pub mod LabelLemmas
pub mod JournalLemmas
