-- The lemmas of this crate and of those above.
pub mod EntryLemmas
pub mod HalfLemmas
pub mod CodecLemmas
pub mod MixLemmas
pub mod TurnLemmas
pub mod ClearLemmas
